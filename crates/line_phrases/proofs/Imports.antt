-- What the proofs of this crate speak of.
pub use Rattle.line_phrases.specs.Imports.{◌>>=◌, starts, past, item_at, give_at, Grammar, nothing, takes, Shrinks, steps_end, steps_stepped, steps_stop, is_same, or_of, and_of, sum_of, product_of, Value, wrapped, arrays, fields_of_list, read, count, path, passes, link, atom_within, unary, product, sum, negation, conjunction, expr_over, listed, mapping, field_within, Minus, BinOp, Binary, Neg, Not, Token, Word, Signed, tree_of, fields_of, arith}
unfoldable pub use Rattle.line_phrases.specs.Imports.{later, parts, dims, later_passes, links, signs}
pub use Rattle.record_dim.specs.Std.{◌≡◌, ℕ, suc, ◌+◌, true, false, List, Option, Some, Result, Ok, Err, codes, refl, sym, ap, ◌∙◌, add-one, [], map, ◌<◌, ◌≤◌, ◌*◌, length, zero, vec_len}
pub use Rattle.line_grammar.specs.Grammar.{behind}
pub use Rattle.map_expr.specs.Terms.{term_of}
pub use Rattle.line_phrases.specs.Inner.Fields.{boxed_field}
pub use Rattle.line_phrases.specs.FieldLaws.{onto}
pub use Rattle.line_phrases.specs.Inner.Exprs.{means, boxed_term, left_term}
unfoldable pub use Rattle.line_phrases.specs.Inner.Exprs.{chain_behind}

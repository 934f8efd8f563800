-- What this crate takes of others.
pub use Rattle.expr_lang.specs.Prelude.{Binary, Neg, Not, term_of}
pub use Rattle.expr_lang.specs.declared.expr.BinOp.{BinOp}
pub use Rattle.expr_lang.specs.declared.expr.BinOp.TheVariants.{Add, And, Eq, Max, Min, Mul, Or}
pub use Rattle.expr_lang.specs.declared.expr.Expr.{Expr}
pub use Rattle.extents.specs.declared.order.Order.{Order}
pub use Rattle.extents.specs.declared.order.Order.TheVariants.{Row}
pub use Rattle.line_grammar.specs.Prelude.{Exact, Fine, Firsts, Grammar, Is, Quiet, Shrinks, Skips, Under, Value, Wider, alike, and_of, anyway, arrays, behind, behind_list_bare, behind_list_end}
pub use Rattle.line_grammar.specs.Prelude.{behind_list_stepped, behind_list_stop, choice_of, comparison_of, count, count_of, dimensions, either, empty, equal, fewer, fields_of_list, first, firsts_any}
pub use Rattle.line_grammar.specs.Prelude.{firsts_more, give_at, index_of, index_word, integer_type_of, is_same, is_sign, is_word, item, item_at, joined_wider, link, list_end, list_stepped, list_stop}
pub use Rattle.line_grammar.specs.Prelude.{map_word, may_be_empty, name, name_of, nothing, number, or_of, past, product_of, read, repeats, reserved, sign_only, sign_self, skips_more, starts}
pub use Rattle.line_grammar.specs.Prelude.{steps_end, steps_stepped, steps_stop, sum_of, takes, token_number, token_order, type_of, wider, word_only, word_self, wrapped, ◌>>=◌}
unfoldable pub use Rattle.line_grammar.specs.Prelude.{atom_within, braced, braced_widths, bracket_list, bracketed, chain, choice, comparison, conjunction, constant, cuts, dim, dims, expr, expr_over}
unfoldable pub use Rattle.line_grammar.specs.Prelude.{extent_word, field_width, field_widths, field_within, fields, fixed, form_or_name, inside_aos, inside_aosoa, inside_bits, inside_form, inside_soa}
unfoldable pub use Rattle.line_grammar.specs.Prelude.{later, later_passes, leaf, links, listed, mapping, mapping_within, negation, nested, part, parts, pass, passes, path, prefixed, product, signs}
unfoldable pub use Rattle.line_grammar.specs.Prelude.{span, sum, term, terms, typed, unary, window}
pub use Rattle.line_grammar.specs.UnderLaws.{joined}
pub use Rattle.line_grammar.specs.declared.line.MapWord.{MapWord}
pub use Rattle.line_grammar.specs.declared.line.PassText.{PassText}
pub use Rattle.line_grammar.specs.declared.token.Token.{Token}
pub use Rattle.line_grammar.specs.declared.token.Token.TheVariants.{Number, Sign as Signed, Word}
pub use Rattle.line_grammar.specs.declared.version.Version.{Version}
pub use Rattle.line_tokens.specs.declared.sign.Sign.{Sign}
pub use Rattle.line_tokens.specs.declared.sign.Sign.TheVariants.{CloseBracket, Comma, Dot, EqualEqual, GreaterEqual, GreaterThan, LessEqual, LessThan, Minus, NotEqual, OpenBrace, OpenBracket}
pub use Rattle.line_tokens.specs.declared.sign.Sign.TheVariants.{OpenParen, Percent, Plus, Question, Slash, Star}
pub use Rattle.map_expr.specs.Terms.{BitAos, BitSoa, Bytesplit, Byteswap, Count, Named, Term as MapTerm}
pub use Rattle.map_expr.specs.declared.expr.MapExpr.{MapExpr}
pub use Rattle.map_expr.specs.declared.widths.FieldWidth.{FieldWidth}
pub use Rattle.record_dim.specs.Prelude.{Array, End, Field, Fields, Tree, fields_of, tree_of}
pub use Rattle.record_dim.specs.Std.{Global, ap, arith, bytes_eq-Decides, cases_Bool, inl, inr, list_any, map-append, or_cases, sym}
pub use Rattle.record_dim.specs.declared.dim.Field.{Field as FieldValue}
pub use Rattle.record_dim.specs.declared.leaf_type.LeafType.TheVariants.{Bool as Truth, U8}
pub use Rattle.record_dim.specs.declared.path.PathStep.{PathStep}
pub use Rattle.std.specs.Prelude.{Bool, Box, Err, IfErr, IfOk, List, None, Ok, OnOk, Option, Result, Some, [], box_value, bytes_eq, codes, false, is_some, length, map, pos, refl, suc, true, zero, ℕ}
pub use Rattle.std.specs.Prelude.{ℤ, ⊤}

-- What this crate takes of others.
pub use Rattle.expr_lang.specs.Prelude.{depth_of, term_of}
pub use Rattle.extents.specs.declared.words.ExtentWord.{ExtentWord}
pub use Rattle.line_grammar.specs.Prelude.{Grammar, New, Reads, Sentence, StopsAt, assignment_of, column_behind, command_of, count_of, deepest, deepest_set, ended_at, filter_depth, is_file_name}
pub use Rattle.line_grammar.specs.Prelude.{is_word, item_at, may_have_window, read, sentence_of, token_of, tokens_of}
unfoldable pub use Rattle.line_grammar.specs.Prelude.{actors, assignment, body, bracket_list, command_line, extent_word, filter, fixed, flag, inside_kernel, kernel_text, line, listed, new}
pub use Rattle.line_grammar.specs.declared.line.Command.{Command}
pub use Rattle.line_grammar.specs.declared.line.KernelWord.TheVariants.{Axpy, Clamp, CountWhere}
pub use Rattle.line_grammar.specs.declared.line.Line.{Line}
pub use Rattle.line_grammar.specs.declared.token.Token.{Token}
pub use Rattle.line_grammar.specs.declared.version.Version.{Version}
pub use Rattle.line_grammar.specs.declared.version.Version.TheVariants.{Two}
pub use Rattle.line_phrases.specs.Inner.Gives.{Gives, IsSyntax}
pub use Rattle.line_tokens.specs.Next.{next_of}
pub use Rattle.line_tokens.specs.Spots.{Spots, brackets_after}
pub use Rattle.line_tokens.specs.declared.spots.Spot.{Spot}
pub use Rattle.line_tokens.specs.declared.token.Next.{Next}
pub use Rattle.line_tokens.specs.declared.token.TokenKind.{TokenKind}
pub use Rattle.line_tokens.specs.declared.token.TokenKind.TheVariants.{Number, Sign as SignKind, Text, Word}
pub use Rattle.map_expr.specs.Terms.{term_of as map_of}
pub use Rattle.record_dim.specs.Prelude.{Array, IsRecord, Record, Single, Tree, begins_name, continues_name, is_name, name_utf8, tree_of}
pub use Rattle.std.specs.List.{list_all}
pub use Rattle.std.specs.Prelude.{All, Bool, Err, IfErr, IfOk, IfSome, List, MatchOption, MatchResult, None, Ok, OnOk, Option, Result, Some, [], codes, false, length, map, nat_le, option_map}
pub use Rattle.std.specs.Prelude.{slice_range, suc, true, zero, ℕ}

-- What other crates take of this one.
pub use Rattle.line_grammar.specs.Ended.{ended, ended_at}
pub use Rattle.line_grammar.specs.FileBytesLaws.{file_name_utf8}
pub use Rattle.line_grammar.specs.FineLaws.{Fine, Firsts, Quiet, Skips, anyway, firsts_any, firsts_more, may_be_empty, skips_more}
pub use Rattle.line_grammar.specs.Grammar.{Grammar, Is, deep, item, joined, more, nothing, which}
pub use Rattle.line_grammar.specs.Inner.FileNames.{is_file_name}
pub use Rattle.line_grammar.specs.Language.{IsSentence, arrays, count, fields_of_list, link, name, number, read, string, wrapped}
unfoldable pub use Rattle.line_grammar.specs.Language.{actors, assignment, atom_within, body, braced, braced_widths, bracket_list, bracketed, chain, choice, command_line, comparison, conjunction}
unfoldable pub use Rattle.line_grammar.specs.Language.{constant, cuts, dim, dims, expr, expr_over, extent_word, field_width, field_widths, field_within, fields, filter, fixed, flag, form_or_name}
unfoldable pub use Rattle.line_grammar.specs.Language.{inside_aos, inside_aosoa, inside_bits, inside_form, inside_kernel, inside_soa, kernel_text, later, later_passes, leaf, line, links, listed}
unfoldable pub use Rattle.line_grammar.specs.Language.{mapping, mapping_within, negation, nested, new, part, parts, pass, passes, path, prefixed, product, show_end, signs, span, sum, term, terms}
unfoldable pub use Rattle.line_grammar.specs.Language.{typed, unary, update_end, window}
pub use Rattle.line_grammar.specs.LeavesLaws.{Leaves, Splits, Told, leaves, told}
pub use Rattle.line_grammar.specs.LineLaws.{line_found, line_full, line_stop}
pub use Rattle.line_grammar.specs.LoopLaws.{behind_list_bare, behind_list_end, behind_list_stepped, behind_list_stop, list_end, list_stepped, list_stop}
pub use Rattle.line_grammar.specs.ParsesLaws.{Exact, ok_parts}
pub use Rattle.line_grammar.specs.Phrases.{Chain, IsNothing, Joined}
pub use Rattle.line_grammar.specs.Reading.{first, give_at, item_at, item_or, past, starts, ◌>>=◌}
unfoldable pub use Rattle.line_grammar.specs.Reading.{steps_at}
pub use Rattle.line_grammar.specs.Reads.{Reads, StopsAt, column_behind, tokens_of}
pub use Rattle.line_grammar.specs.RepeatedLaws.{Shrinks, steps_end, steps_stepped, steps_stop}
pub use Rattle.line_grammar.specs.Sentences.{Actors, Advise, Assign, Assignment, Blank, Bytes, Copy, Count, Define, Drop, Kernel, Load, Mapping, New, Open, PrintWindow, Reduce, Relayout, Save}
pub use Rattle.line_grammar.specs.Sentences.{Sentence, Show, Stencil, Update, Value, View, assignment_of, deepest, deepest_set, file_read_by, filter_depth, sentence_of}
pub use Rattle.line_grammar.specs.SignsLaws.{sign_only, sign_self, word_only, word_self}
pub use Rattle.line_grammar.specs.TakesLaws.{takes}
pub use Rattle.line_grammar.specs.Tokens.{and_of, aos_form_of, aos_forms, choice_of, command_of, commands, comparison_of, count_of, dimensions, index_of, integer_type_of, integer_types, is_same}
pub use Rattle.line_grammar.specs.Tokens.{is_sign, is_word, kernel_word_of, kind_token, leaf_types, map_word, map_words, meaning, name_of, or_of, orders, product_of, reduction_of, reductions}
pub use Rattle.line_grammar.specs.Tokens.{reserved, soa_form_of, soa_forms, string_of, sum_of, token_number, token_of, token_order, type_of}
pub use Rattle.line_grammar.specs.UnderLaws.{Under, alike, behind, either, empty, equal, fewer, repeats, wider}
pub use Rattle.line_grammar.specs.Versions.{may_have_window, version_numbered}
pub use Rattle.line_grammar.specs.WiderLaws.{Wider, joined_wider}
pub use Rattle.line_grammar.specs.Words.{aos_word, command_word, form_word, index_word, kernel_word, operator, order_word, reduction_word, soa_word, type_word}

-- What the proofs of this crate speak of.
pub use Rattle.line_writer.specs.Imports.{spaced, spaced_tokens, Spells, MayOpen, AreSpelled, Written, OpenBrace, CloseBrace, Comma, CloseBracket, OpenParen, CloseParen, Dot, Equals, Minus, OpenBracket, Arrow, Star, Tree, Fields, Field, Record, Single, tree_of, fields_of, both, FieldWidth, Token, Word, Sign, Number, Text, Bad, PathStep, BinOp, Eq, Ne, Lt, Le, Gt, Ge, Add, Sub, Mul, Div, Rem, Min, Max, And, Or, depth_of, Entry, Index, Neg, Not, Binary, Constant, Version, KernelText, ExtentWord, NoEnd, opens, closes, Span, TermText}
pub use Rattle.record_dim.specs.Std.{◌≡◌, ℕ, suc, ◌+◌, ◌<◌, ◌≤◌, ◌-◌, List, [], ◌∷◌, ◌++◌, map, length, get_or, take, drop, codes, refl, sym, ap, ◌∙◌, add-one, drop-cons, append-nil, append_assoc, arith, zero, inl, inr, Option, Some, None, subst, max, ℤ, pos, negsuc, neg_ℤ, true, false, ◌⊎◌, ◌^◌, slice_range, Bool, not, ◌&&◌, if◌then◌else◌, bytes_eq, nat_lt, ◌*◌, flat_map, list_all, AllPass, list_any, take-length, decimal, decimal_digit, decimal_is_IsNumeral_wide, flat_map-append, nat_tests, digit_from_value, append_cancel_right, drop-drop, length-append, take_at, map-append, AllPass-from_list_all, is_ascii_digit, AllDigits, le-max_left, le-max_right, bytes_eq-Decides, map-map, common_steps}
pub use Rattle.line_grammar.specs.Prelude.{Sentence, Assignment, Value, Assign, Update, Actors, Kernel, Count, filter_depth, deepest_set, deepest, Show, Stencil, assignment_of, Joined, IsNothing, Chain, Grammar, Is, item, joined, which, nothing, deep, more, Splits, Told, told, token_number, kernel_word_of, comparison_of, command_of, dimensions, index_of, choice_of, or_of, and_of, sum_of, product_of, map_word, token_order, kind_token, meaning, name_of, count_of, string_of, type_of, integer_type_of, integer_types, leaf_types, orders, aos_forms, aos_form_of, soa_forms, soa_form_of, map_words, reduction_of, reductions, commands, wrapped, arrays, fields_of_list, name, count, number, string, link, operator, kernel_word, index_word, reduction_word, command_word, type_word, order_word, aos_word, soa_word, form_word, tokens_of, Reads}
pub use Rattle.line_grammar.specs.Grammar.{behind, either, repeats}
pub use Rattle.line_grammar.specs.LeavesLaws.{Written as InParts, written as in_parts}
pub use Rattle.line_grammar.specs.declared.version.Version.TheVariants.{One, Two}
pub use Rattle.line_grammar.specs.declared.line.Command.{Command}
pub use Rattle.line_grammar.specs.declared.line.KernelWord.{KernelWord}
pub use Rattle.line_grammar.specs.Tokens.{listed}
unfoldable pub use Rattle.line_grammar.specs.Prelude.{actors, assignment, atom_within, body, braced, braced_widths, bracketed, chain, choice, command_line, comparison, conjunction, constant, dim, dims, expr, expr_over, extent_word, field_width, field_widths, field_within, fields, fixed, flag, form_or_name, inside_aos, inside_aosoa, inside_bits, inside_form, inside_kernel, inside_soa, kernel_text, later, later_passes, leaf, line, links, mapping, mapping_within, negation, nested, new, part, parts, pass, passes, path, prefixed, product, show_end, signs, span, sum, typed, unary, update_end}
unfoldable pub use Rattle.line_grammar.specs.Language.{bracket_list as bracketed_list, cuts as cuts_phrase, filter as filter_phrase, listed as comma_list, term as term_phrase, terms as terms_phrase, window as window_phrase}
pub use Rattle.line_grammar.specs.declared.line.ShowKind.{ShowKind}
pub use Rattle.map_expr.specs.Terms.{Term as MapTerm, term_of}
pub use Rattle.line_grammar.specs.declared.line.MapWord.{MapWord}
pub use Rattle.line_tokens.specs.Bytes.{is_text_byte, is_letter, is_word_byte}
pub use Rattle.line_tokens.specs.EndLaws.{joined_no_end}
pub use Rattle.line_tokens.specs.Next.{next_of}
pub use Rattle.line_tokens.specs.Spots.{brackets_after, Spots}
pub use Rattle.line_tokens.specs.Tokens.{Begins}
pub use Rattle.line_tokens.specs.declared.spots.Spot.{Spot}
pub use Rattle.line_tokens.specs.declared.token.Next.TheVariants.{Token as Found}
pub use Rattle.line_tokens.specs.declared.token.TokenKind.{TokenKind}
pub use Rattle.line_tokens.specs.NextTokenLaws.{token_exactly}
pub use Rattle.line_tokens.specs.SpelledLaws.{next_spells, joined_read}
pub use Rattle.line_tokens.specs.SpotLaws.{spot_at}
pub use Rattle.line_tokens.specs.declared.sign.Sign.{Sign as SignName}
pub use Rattle.record_dim.specs.declared.dim.FieldList.{the_lemmas, size-FieldList}
pub use Rattle.record_dim.specs.declared.dim.Dim.{size-Dim}
pub use Rattle.line_writer.specs.Canonical.{with_commas, width_tokens, widths_tokens, fields_tokens, later_tokens, held_tokens, line_tokens, count_token, number_tokens, path_tokens, form_tokens, value_tokens, assignment_tokens, filter_tokens, update_tokens, index_tokens, actors_tokens, kernel_tokens, is_choice, operand, bracket_list, extent_tokens, flag_tokens, map_tokens, pass_tokens, new_tokens, bracketed_count, step_tokens, dims_tokens, core_tokens, span_tokens, window_tokens, needs_brackets, first_tokens, term_tokens, terms_tokens}
pub use Rattle.line_writer.specs.Texts.{written, with_tokens_behind}
unfoldable pub use Rattle.line_writer.specs.Texts.{canonical}

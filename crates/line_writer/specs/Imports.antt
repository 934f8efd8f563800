-- What this crate takes of others.
pub use Rattle.expr_lang.specs.Prelude.{Binary, Entry, Index, Neg, Not, depth_of, term_of}
pub use Rattle.expr_lang.specs.Terms.{Number as Constant}
pub use Rattle.expr_lang.specs.declared.expr.BinOp.{BinOp}
pub use Rattle.expr_lang.specs.declared.expr.BinOp.TheVariants.{Add, And, Div, Eq, Ge, Gt, Le, Lt, Max, Min, Mul, Ne, Or, Rem, Sub}
pub use Rattle.extents.specs.declared.order.Order.{Order}
pub use Rattle.extents.specs.declared.window.Span.{Span}
pub use Rattle.extents.specs.declared.words.ExtentWord.{ExtentWord}
pub use Rattle.line_grammar.specs.Prelude.{Actors, Advise, Assign, Assignment, Blank, Bytes, Copy, Count, Define, Drop, Kernel, Load, Mapping, New, Open, PrintWindow, Reads, Reduce, Relayout, Save}
pub use Rattle.line_grammar.specs.Prelude.{Sentence, Show, Stencil, Update, Value, View, aos_word, assignment_of, command_word, deepest, form_word, kernel_word, operator, order_word, reduction_word}
pub use Rattle.line_grammar.specs.Prelude.{sentence_of, soa_word, type_word}
pub use Rattle.line_grammar.specs.declared.line.KernelText.{KernelText}
pub use Rattle.line_grammar.specs.declared.line.PassText.{PassText}
pub use Rattle.line_grammar.specs.declared.line.TermText.{TermText}
pub use Rattle.line_grammar.specs.declared.token.Token.{Token}
pub use Rattle.line_grammar.specs.declared.token.Token.TheVariants.{Bad, Number, Sign, Text, Text as Quoted, Word}
pub use Rattle.line_grammar.specs.declared.version.Version.{Version}
pub use Rattle.line_tokens.specs.Inner.Ends.{NoEnd}
pub use Rattle.line_tokens.specs.Signs.{closes, opens, spelling}
pub use Rattle.line_tokens.specs.Spelled.{AreSpelled, MayOpen, Spells, Written, spaced, spaced_tokens}
pub use Rattle.line_tokens.specs.declared.sign.Sign.TheVariants.{Arrow, CloseBrace, CloseBracket, CloseParen, Colon, Comma, Dot, Equals, Minus, OpenBrace, OpenBracket, OpenParen, Question, Slash}
pub use Rattle.line_tokens.specs.declared.sign.Sign.TheVariants.{Star}
pub use Rattle.map_expr.specs.Terms.{Aos, Aosoa, BitAos, BitSoa, Bytesplit, Byteswap, Change, Count as Counted, Heat as Heated, Named, Soa, Split, Term as MapTerm, term_of as map_of}
pub use Rattle.map_expr.specs.declared.widths.FieldWidth.{FieldWidth}
pub use Rattle.record_dim.specs.Prelude.{Array, End, Field, Fields, Record, Single, Tree, both, fields_of, tree_of}
pub use Rattle.record_dim.specs.declared.path.PathStep.{PathStep}
pub use Rattle.std.specs.Fmt.{decimal}
pub use Rattle.std.specs.List.{flat_map}
pub use Rattle.std.specs.Str.{byte}

-- The tokens of a line as its grammar sees them, and what each stands for.
use Rattle.std.specs.Prelude.{ℕ, ◌^◌, ◌+◌, ◌-◌, Bool, false, bytes_eq, nat_lt, if◌then◌else◌, List, [], ◌∷◌, ◌++◌, map, Option, Some, None, codes, ℤ, pos, slice_range}
use Rattle.record_dim.specs.Std.{list_any}
use Rattle.line_tokens.specs.Signs.{spelling}
use Rattle.line_tokens.specs.declared.sign.Sign.{Sign}
use Rattle.line_tokens.specs.declared.spots.Spot.{Spot}
use Rattle.line_tokens.specs.declared.token.TokenKind.{TokenKind}
use Rattle.line_tokens.specs.declared.token.TokenKind.TheVariants as kind
use Rattle.record_dim.specs.declared.leaf_type.LeafType.{LeafType}
use Rattle.record_dim.specs.declared.leaf_type.LeafType.TheVariants.{Bool as Truth, U8, U16, U32, U64, I8, I16, I32, I64}
use Rattle.expr_lang.specs.declared.expr.BinOp.{BinOp}
use Rattle.expr_lang.specs.declared.expr.BinOp.TheVariants.{Add, Sub, Mul, Div, Rem, Min, Max, Eq, Ne, Lt, Le, Gt, Ge, And, Or}
use Rattle.extents.specs.declared.order.Order.{Order}
use Rattle.extents.specs.declared.order.Order.TheVariants.{Row, Col, Morton}
use Rattle.places.specs.declared.forms.AosForm.{AosForm}
use Rattle.places.specs.declared.forms.AosForm.TheVariants as aos
use Rattle.places.specs.declared.forms.SoaForm.{SoaForm}
use Rattle.places.specs.declared.forms.SoaForm.TheVariants as soa
use Rattle.line_grammar.specs.Words.{type_word, order_word, aos_word, soa_word, form_word, kernel_word, reduction_word, command_word, show_kinds, index_word, operator}
use Rattle.line_grammar.specs.declared.items.Symbol.{Symbol}
use Rattle.line_grammar.specs.declared.items.Symbol.TheVariants as symbol
use Rattle.line_grammar.specs.declared.token.Token.{Token}
use Rattle.line_grammar.specs.declared.token.Token.TheVariants.{Word, Number, Text, Sign as Signed, Bad}
use Rattle.line_grammar.specs.declared.line.Command.{Command}
use Rattle.line_grammar.specs.declared.line.Command.TheVariants as command
use Rattle.line_grammar.specs.declared.line.KernelWord.{KernelWord}
use Rattle.line_grammar.specs.declared.line.KernelWord.TheVariants as kernel
use Rattle.line_grammar.specs.declared.line.MapWord.{MapWord}
use Rattle.line_grammar.specs.declared.line.MapWord.TheVariants as form
use Rattle.line_grammar.specs.declared.line.ReduceKind.{ReduceKind}
use Rattle.line_grammar.specs.declared.line.ReduceKind.TheVariants as reduce
use Rattle.line_grammar.specs.declared.version.Version.{Version}
use Rattle.line_grammar.specs.declared.version.Version.TheVariants.{One, Two}

-- the token of a kind, with its bytes and the bytes between its quotes
abbrev pub kind_token : List ℕ → List ℕ → Option TokenKind → Token
kind_token bytes inside None = Bad
kind_token bytes inside (Some kind.Word) = Word bytes
kind_token bytes inside (Some (kind.Number value)) = Number value
kind_token bytes inside (Some kind.Text) = Text inside
kind_token bytes inside (Some (kind.Sign sign)) = Signed sign

-- the token at a spot of a text: of a string the bytes between its quotes
abbrev pub token_of : List ℕ → Spot → Token
token_of text spot = kind_token (slice_range text spot.from spot.end) (slice_range text (spot.from + 1) (spot.end - 1)) spot.kind

-- whether a token is this word, and whether it is this sign
abbrev pub is_word : List ℕ → Token → Bool
is_word text (Word word) = bytes_eq word text
is_word text _ = false

abbrev pub is_sign : Sign → Token → Bool
is_sign sign (Signed other) = bytes_eq (spelling other) (spelling sign)
is_sign sign _ = false

-- whether a token is this one, which is a word or a sign
abbrev pub is_same : Token → Token → Bool
is_same (Word word) token = is_word word token
is_same (Signed sign) token = is_sign sign token
is_same _ token = false

-- the first of these values that a word spells, and that a token does
abbrev pub listed : {A : Type 0} → (A → List ℕ) → List A → List ℕ → Option A
listed word_of [] word = None
listed word_of (value ∷ values) word = if bytes_eq word (word_of value) then Some value else listed word_of values word

abbrev pub meaning : {A : Type 0} → (A → List ℕ) → List A → Token → Option A
meaning word_of values (Word word) = listed word_of values word
meaning word_of values _ = None

-- the first of these operators that a token is
abbrev pub operator_in : List BinOp → Token → Option BinOp
operator_in [] token = None
operator_in (op ∷ ops) token = if is_same (operator op) token then Some op else operator_in ops token

-- the words that are no names
abbrev pub reserved : List (List ℕ)
reserved = codes "and" ∷ codes "or" ∷ codes "not" ∷ codes "min" ∷ codes "max" ∷ codes "i0" ∷ codes "i1" ∷ codes "i2" ∷ codes "i3" ∷ []

-- NAME, NUMBER, COUNT and STRING
abbrev pub name_of : Token → Option (List ℕ)
name_of (Word word) = if list_any (bytes_eq word) reserved then None else Some word
name_of _ = None

abbrev pub token_number : Token → Option ℤ
token_number (Number (pos value)) = Some (pos value)
token_number _ = None

abbrev pub count_of : Token → Option ℕ
count_of (Number (pos value)) = if nat_lt value (2 ^ 32) then Some value else None
count_of _ = None

abbrev pub string_of : Token → Option (List ℕ)
string_of (Text text) = Some text
string_of _ = None

-- TYPE, and INTTYPE, which is any but `bool`
abbrev pub integer_types : List LeafType
integer_types = U8 ∷ U16 ∷ U32 ∷ U64 ∷ I8 ∷ I16 ∷ I32 ∷ I64 ∷ []

abbrev pub leaf_types : List LeafType
leaf_types = Truth ∷ integer_types

abbrev pub type_of : Token → Option LeafType
type_of = meaning type_word leaf_types

abbrev pub integer_type_of : Token → Option LeafType
integer_type_of = meaning type_word integer_types

-- the words of mappings
abbrev pub orders : List Order
orders = Row ∷ Col ∷ Morton ∷ []

abbrev pub token_order : Token → Option Order
token_order = meaning order_word orders

abbrev pub aos_forms : List AosForm
aos_forms = aos.Packed ∷ aos.Aligned ∷ aos.Min ∷ []

abbrev pub aos_form_of : Token → Option AosForm
aos_form_of = meaning aos_word aos_forms

abbrev pub soa_forms : List SoaForm
soa_forms = soa.Single ∷ soa.Aligned ∷ soa.Multi ∷ []

abbrev pub soa_form_of : Token → Option SoaForm
soa_form_of = meaning soa_word soa_forms

-- the word that begins a form of a mapping
abbrev pub map_words : List MapWord
map_words = form.Aos ∷ form.Soa ∷ form.Aosoa ∷ form.BitAos ∷ form.BitSoa ∷ form.Split ∷ form.Byteswap ∷ form.Bytesplit ∷ form.Change
    ∷ form.Count ∷ form.Heat ∷ []

abbrev pub map_word : List ℕ → Option MapWord
map_word = listed form_word map_words

-- the words and signs of expressions
abbrev pub dimensions : List ℕ
dimensions = 0 ∷ 1 ∷ 2 ∷ 3 ∷ []

abbrev pub index_named : List ℕ → Option ℕ
index_named = listed index_word dimensions

abbrev pub index_of : Token → Option ℕ
index_of = meaning index_word dimensions

abbrev pub choice_of : Token → Option BinOp
choice_of = operator_in (Min ∷ Max ∷ [])

abbrev pub or_of : Token → Option BinOp
or_of = operator_in (Or ∷ [])

abbrev pub and_of : Token → Option BinOp
and_of = operator_in (And ∷ [])

abbrev pub comparison_of : Token → Option BinOp
comparison_of = operator_in (Eq ∷ Ne ∷ Lt ∷ Le ∷ Gt ∷ Ge ∷ [])

abbrev pub sum_of : Token → Option BinOp
sum_of = operator_in (Add ∷ Sub ∷ [])

abbrev pub product_of : Token → Option BinOp
product_of = operator_in (Mul ∷ Div ∷ Rem ∷ [])

-- what an operator of the code is written as
abbrev pub symbol_token : Symbol → Token
symbol_token (symbol.Word word) = Word word.now
symbol_token (symbol.Sign sign) = Signed sign

-- the words of commands
abbrev pub kernel_words : List KernelWord
kernel_words = kernel.Axpy ∷ kernel.Clamp ∷ kernel.Sum ∷ kernel.Least ∷ kernel.Greatest ∷ kernel.CountWhere ∷ []

abbrev pub kernel_word_of : Token → Option KernelWord
kernel_word_of = meaning kernel_word kernel_words

abbrev pub reductions : List ReduceKind
reductions = reduce.Sum ∷ reduce.Min ∷ reduce.Max ∷ []

abbrev pub reduction_of : Token → Option ReduceKind
reduction_of = meaning reduction_word reductions

abbrev pub first_commands : List Command
first_commands = command.Record ∷ command.Mapping ∷ command.View ∷ command.Load ∷ command.Set ∷ command.Update ∷ command.Kernel
    ∷ command.Reduce ∷ command.Copy ∷ command.Relayout ∷ (map command.Show show_kinds ++ command.Drop ∷ command.Bytes ∷ [])

-- those that came with the second version
abbrev pub later_commands : Version → List Command
later_commands One = []
later_commands Two = command.Save ∷ command.Open ∷ command.Advise ∷ command.Stencil ∷ []

abbrev pub commands : Version → List Command
commands version = first_commands ++ later_commands version

abbrev pub command_of : Version → Token → Option Command
command_of version = meaning command_word (commands version)

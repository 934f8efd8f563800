-- How a script spells the values of its enums: a word each, an operator a sign or a word.
use Rattle.std.specs.Prelude.{ℕ, ◌+◌, List, [], ◌∷◌, ◌++◌, codes}
use Rattle.record_dim.specs.Std.{byte}
use Rattle.line_tokens.specs.declared.sign.Sign.TheVariants.{EqualEqual, NotEqual, LessThan, LessEqual, GreaterThan, GreaterEqual, Plus, Minus, Star, Slash, Percent}
use Rattle.record_dim.specs.declared.leaf_type.LeafType.{LeafType}
use Rattle.record_dim.specs.declared.leaf_type.LeafType.TheVariants.{Bool as Truth, U8, U16, U32, U64, I8, I16, I32, I64}
use Rattle.expr_lang.specs.declared.expr.BinOp.{BinOp}
use Rattle.expr_lang.specs.declared.expr.BinOp.TheVariants.{Add, Sub, Mul, Div, Rem, Min, Max, Eq, Ne, Lt, Le, Gt, Ge, And, Or}
use Rattle.extents.specs.declared.order.Order.{Order}
use Rattle.extents.specs.declared.order.Order.TheVariants.{Row, Col, Morton}
use Rattle.places.specs.declared.forms.AosForm.{AosForm}
use Rattle.places.specs.declared.forms.AosForm.TheVariants as aos
use Rattle.places.specs.declared.forms.SoaForm.{SoaForm}
use Rattle.places.specs.declared.forms.SoaForm.TheVariants as soa
use Rattle.line_grammar.specs.declared.token.Token.{Token}
use Rattle.line_grammar.specs.declared.token.Token.TheVariants.{Word, Sign as Signed}
use Rattle.line_grammar.specs.declared.line.Command.{Command}
use Rattle.line_grammar.specs.declared.line.Command.TheVariants as command
use Rattle.line_grammar.specs.declared.line.KernelWord.{KernelWord}
use Rattle.line_grammar.specs.declared.line.KernelWord.TheVariants as kernel
use Rattle.line_grammar.specs.declared.line.MapWord.{MapWord}
use Rattle.line_grammar.specs.declared.line.MapWord.TheVariants as form
use Rattle.line_grammar.specs.declared.line.ReduceKind.{ReduceKind}
use Rattle.line_grammar.specs.declared.line.ReduceKind.TheVariants as reduce
use Rattle.line_grammar.specs.declared.line.ShowKind.{ShowKind}
use Rattle.line_grammar.specs.declared.line.ShowKind.TheVariants as show

-- the types of leaves
abbrev pub type_word : LeafType → List ℕ
type_word Truth = codes "bool"
type_word U8 = codes "u8"
type_word U16 = codes "u16"
type_word U32 = codes "u32"
type_word U64 = codes "u64"
type_word I8 = codes "i8"
type_word I16 = codes "i16"
type_word I32 = codes "i32"
type_word I64 = codes "i64"

-- the orders of slots
abbrev pub order_word : Order → List ℕ
order_word Row = codes "row"
order_word Col = codes "col"
order_word Morton = codes "morton"

-- the forms of an array of structs, and of a struct of arrays
abbrev pub aos_word : AosForm → List ℕ
aos_word aos.Packed = codes "packed"
aos_word aos.Aligned = codes "aligned"
aos_word aos.Min = codes "min"

abbrev pub soa_word : SoaForm → List ℕ
soa_word soa.Single = codes "single"
soa_word soa.Aligned = codes "aligned"
soa_word soa.Multi = codes "multi"

-- what begins a form of a mapping
abbrev pub form_word : MapWord → List ℕ
form_word form.Aos = codes "aos"
form_word form.Soa = codes "soa"
form_word form.Aosoa = codes "aosoa"
form_word form.BitAos = codes "bitaos"
form_word form.BitSoa = codes "bitsoa"
form_word form.Split = codes "split"
form_word form.Byteswap = codes "byteswap"
form_word form.Bytesplit = codes "bytesplit"
form_word form.Change = codes "change"
form_word form.Count = codes "count"
form_word form.Heat = codes "heat"

-- what begins a kernel
abbrev pub kernel_word : KernelWord → List ℕ
kernel_word kernel.Axpy = codes "axpy"
kernel_word kernel.Clamp = codes "clamp"
kernel_word kernel.Sum = codes "sum"
kernel_word kernel.Least = codes "least"
kernel_word kernel.Greatest = codes "greatest"
kernel_word kernel.CountWhere = codes "count_where"

-- the reductions
abbrev pub reduction_word : ReduceKind → List ℕ
reduction_word reduce.Sum = codes "sum"
reduction_word reduce.Min = codes "min"
reduction_word reduce.Max = codes "max"

-- what is shown of a view
abbrev pub show_word : ShowKind → List ℕ
show_word show.Print = codes "print"
show_word show.Counts = codes "counts"
show_word show.Heat = codes "heat"
show_word show.Layout = codes "layout"

abbrev pub show_kinds : List ShowKind
show_kinds = show.Print ∷ show.Counts ∷ show.Heat ∷ show.Layout ∷ []

-- what begins a line
abbrev pub command_word : Command → List ℕ
command_word command.Record = codes "record"
command_word command.Mapping = codes "mapping"
command_word command.View = codes "view"
command_word command.Load = codes "load"
command_word command.Set = codes "set"
command_word command.Update = codes "update"
command_word command.Kernel = codes "kernel"
command_word command.Reduce = codes "reduce"
command_word command.Copy = codes "copy"
command_word command.Relayout = codes "relayout"
command_word (command.Show kind) = show_word kind
command_word command.Drop = codes "drop"
command_word command.Bytes = codes "bytes"
command_word command.Save = codes "save"
command_word command.Open = codes "open"
command_word command.Advise = codes "advise"
command_word command.Stencil = codes "stencil"

-- the sign or the word of an operator
abbrev pub operator : BinOp → Token
operator Add = Signed Plus
operator Sub = Signed Minus
operator Mul = Signed Star
operator Div = Signed Slash
operator Rem = Signed Percent
operator Min = Word (codes "min")
operator Max = Word (codes "max")
operator Eq = Signed EqualEqual
operator Ne = Signed NotEqual
operator Lt = Signed LessThan
operator Le = Signed LessEqual
operator Gt = Signed GreaterThan
operator Ge = Signed GreaterEqual
operator And = Word (codes "and")
operator Or = Word (codes "or")

-- the word of a dimension's index, of which there are four
abbrev pub index_word : ℕ → List ℕ
index_word dimension = codes "i" ++ (byte "0" + dimension) ∷ []

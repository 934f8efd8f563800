-- The canonical tokens of a line: those of its grammar with no bracket that is not needed, and with no sign before a zero.
use Rattle.std.specs.Prelude.{ℕ, ◌+◌, Bool, true, false, not, if◌then◌else◌, List, [], ◌∷◌, ◌++◌, map, Option, Some, None, codes, ℤ, pos, negsuc}
use Rattle.record_dim.specs.Std.{decimal, flat_map}
use Rattle.line_writer.specs.Imports.{OpenBrace, CloseBrace, OpenBracket, CloseBracket, OpenParen, CloseParen, Colon, Comma, Dot, Equals, Minus, Star, Slash, Arrow, Question, PathStep, Tree, Single, Record, Array, Fields, End, Field, Span, ExtentWord, Order, BinOp, Min, Max, Entry, Index, Neg, Not, Binary, Constant, FieldWidth, MapTerm, Aos, Soa, Aosoa, BitAos, BitSoa, Split, Byteswap, Bytesplit, Change, Counted, Heated, Named, Token, Word, Number, Text, Sign, KernelText, PassText, TermText, type_word, order_word, aos_word, soa_word, form_word, kernel_word, reduction_word, command_word, operator, Assignment, New, Sentence, Value, Blank, Define, Mapping, View, Load, Assign, Update, Actors, Kernel, Reduce, Count, Copy, Relayout, Show, Drop, Bytes, Save, Open, Advise, PrintWindow, Stencil}
use Rattle.record_dim.specs.declared.path.PathStep.TheVariants as step
use Rattle.extents.specs.declared.words.ExtentWord.TheVariants as extent
use Rattle.line_grammar.specs.declared.line.Command.TheVariants as command
use Rattle.line_grammar.specs.declared.line.KernelText.TheVariants as kernel
use Rattle.line_grammar.specs.declared.line.KernelWord.TheVariants as worded
use Rattle.line_grammar.specs.declared.line.MapWord.TheVariants as map_form
use Rattle.line_grammar.specs.declared.line.ShowKind.TheVariants as show

-- a number; the minus of a negative one is a token of its own
abbrev pub number_tokens : ℤ → List Token
number_tokens (pos value) = Number (pos value) ∷ []
number_tokens (negsuc value) = Sign Minus ∷ Number (pos (value + 1)) ∷ []

-- COUNT, and "[" COUNT "]"
abbrev pub count_token : ℕ → Token
count_token count = Number (pos count)

abbrev pub bracketed_count : ℕ → List Token
bracketed_count count = Sign OpenBracket ∷ count_token count ∷ Sign CloseBracket ∷ []

-- the parts with a comma between each two
abbrev pub with_commas : List (List Token) → List Token
with_commas [] = []
with_commas (part ∷ parts) = part ++ flat_map (λ next. Sign Comma ∷ next) parts

-- "[" parts "]"
abbrev pub bracket_list : List (List Token) → List Token
bracket_list parts = Sign OpenBracket ∷ (with_commas parts ++ Sign CloseBracket ∷ [])

-- a path: a later name stands behind a point, and a number in brackets
abbrev pub step_tokens : PathStep → List Token
step_tokens (step.Name name) = Sign Dot ∷ Word name ∷ []
step_tokens (step.At number) = bracketed_count number

abbrev pub first_tokens : PathStep → List Token
first_tokens (step.Name name) = Word name ∷ []
first_tokens (step.At number) = bracketed_count number

abbrev pub path_tokens : List PathStep → List Token
path_tokens [] = []
path_tokens (first ∷ steps) = first_tokens first ++ flat_map step_tokens steps

-- what a field holds: its numbers of elements stand last, the outermost first
abbrev pub dims_tokens : Tree → List Token
dims_tokens (Array count element) = bracketed_count count ++ dims_tokens element
dims_tokens (Single kind) = []
dims_tokens (Record fields) = []

abbrev mutual
  -- ":" TYPE, or the fields of a record
  pub core_tokens : Tree → List Token
  core_tokens (Single kind) = Sign Colon ∷ Word (type_word kind) ∷ []
  core_tokens (Record fields) = Sign OpenBrace ∷ (fields_tokens fields ++ Sign CloseBrace ∷ [])
  core_tokens (Array count element) = core_tokens element

  pub fields_tokens : Fields → List Token
  fields_tokens End = []
  fields_tokens (Field name held rest) = (Word name ∷ core_tokens held) ++ dims_tokens held ++ later_tokens rest

  -- fields behind another one
  pub later_tokens : Fields → List Token
  later_tokens End = []
  later_tokens (Field name held rest) = (Sign Comma ∷ Word name ∷ core_tokens held) ++ dims_tokens held ++ later_tokens rest

abbrev pub held_tokens : Tree → List Token
held_tokens tree = core_tokens tree ++ dims_tokens tree

-- a word with its inside in brackets
abbrev pub form_tokens : List ℕ → List Token → List Token
form_tokens word inside = Word word ∷ Sign OpenParen ∷ (inside ++ Sign CloseParen ∷ [])

-- a number, or a word, and an order
abbrev pub ordered_tokens : Token → Order → List Token
ordered_tokens token order = token ∷ Sign Comma ∷ Word (order_word order) ∷ []

-- the width of the cells under a path
abbrev pub width_tokens : FieldWidth → List Token
width_tokens entry = path_tokens entry.path ++ Sign Colon ∷ count_token entry.width ∷ []

-- such widths in braces; where there is none, no braces
abbrev pub widths_tokens : List FieldWidth → List Token
widths_tokens [] = []
widths_tokens fields = Sign OpenBrace ∷ (with_commas (map width_tokens fields) ++ Sign CloseBrace ∷ [])

-- a number of bits, widths and an order
abbrev pub bits_tokens : ℕ → List FieldWidth → Order → List Token
bits_tokens width fields order = count_token width ∷ (widths_tokens fields ++ Sign Comma ∷ Word (order_word order) ∷ [])

-- a mapping
abbrev pub map_tokens : MapTerm → List Token
map_tokens (Aos form order) = form_tokens (form_word map_form.Aos) (ordered_tokens (Word (aos_word form)) order)
map_tokens (Soa form order) = form_tokens (form_word map_form.Soa) (ordered_tokens (Word (soa_word form)) order)
map_tokens (Aosoa lanes order) = form_tokens (form_word map_form.Aosoa) (ordered_tokens (count_token lanes) order)
map_tokens (BitAos width fields order) = form_tokens (form_word map_form.BitAos) (bits_tokens width fields order)
map_tokens (BitSoa width fields order) = form_tokens (form_word map_form.BitSoa) (bits_tokens width fields order)
map_tokens (Split path first rest) = form_tokens (form_word map_form.Split) (path_tokens path ++ Sign Comma ∷ (map_tokens first ++ Sign Comma ∷ map_tokens rest))
map_tokens (Byteswap inner) = form_tokens (form_word map_form.Byteswap) (map_tokens inner)
map_tokens (Bytesplit inner) = form_tokens (form_word map_form.Bytesplit) (map_tokens inner)
map_tokens (Change from to inner) = form_tokens (form_word map_form.Change) (Word (type_word from) ∷ Sign Arrow ∷ Word (type_word to) ∷ Sign Comma ∷ map_tokens inner)
map_tokens (Counted inner) = form_tokens (form_word map_form.Count) (map_tokens inner)
map_tokens (Heated granule inner) = form_tokens (form_word map_form.Heat) (count_token granule ∷ Sign Comma ∷ map_tokens inner)
map_tokens (Named name) = Word name ∷ []

-- the operators that stand before their operands
abbrev pub is_choice : BinOp → Bool
is_choice Min = true
is_choice Max = true
is_choice _ = false

-- an operand in brackets where it needs them
abbrev pub needs_brackets : Value → Bool
needs_brackets (Neg inner) = true
needs_brackets (Not inner) = true
needs_brackets (Binary op left right) = not (is_choice op)
needs_brackets _ = false

abbrev pub operand : Value → List Token → List Token
operand value tokens = if needs_brackets value then Sign OpenParen ∷ (tokens ++ Sign CloseParen ∷ []) else tokens

-- an expression
abbrev pub value_tokens : Value → List Token
value_tokens (Constant number) = number_tokens number
value_tokens (Entry path) = path_tokens path
value_tokens (Index dimension) = Word (codes "i" ++ decimal dimension) ∷ []
value_tokens (Neg inner) = Sign Minus ∷ operand inner (value_tokens inner)
value_tokens (Not inner) = Word (codes "not") ∷ operand inner (value_tokens inner)
value_tokens (Binary op left right) =
    if is_choice op then operator op ∷ Sign OpenParen ∷ (value_tokens left ++ Sign Comma ∷ (value_tokens right ++ Sign CloseParen ∷ []))
    else operand left (value_tokens left) ++ operator op ∷ operand right (value_tokens right)

-- the extents of a view
abbrev pub extent_tokens : ExtentWord → List Token
extent_tokens (extent.Fixed count) = count_token count ∷ []
extent_tokens extent.Rows = Sign Question ∷ []

-- a word that may be missing
abbrev pub flag_tokens : List ℕ → Bool → List Token
flag_tokens word true = Word word ∷ []
flag_tokens word false = []

-- what makes a view
abbrev pub new_tokens : New → List Token
new_tokens new =
    Word new.name ∷ Sign Colon ∷ Word new.schema ∷ (bracket_list (map extent_tokens new.words) ++ (flag_tokens (codes "wrap") new.wrap ++ Word (codes "as") ∷ map_tokens new.term))

-- the parts of an update
abbrev pub assignment_tokens : Assignment → List Token
assignment_tokens set = path_tokens set.path ++ Sign Equals ∷ value_tokens set.value

abbrev pub filter_tokens : Option Value → List Token
filter_tokens None = []
filter_tokens (Some filter) = Word (codes "where") ∷ value_tokens filter

abbrev pub update_tokens : List ℕ → Option Value → List Assignment → List Token
update_tokens view filter sets = Word (command_word command.Update) ∷ Word view ∷ (filter_tokens filter ++ Word (codes "set") ∷ with_commas (map assignment_tokens sets))

-- counts in brackets
abbrev pub index_tokens : List ℕ → List Token
index_tokens counts = bracket_list (map (λ count. count_token count ∷ []) counts)

-- the actors of an update: their cuts, the seed of their schedule, and its turns
abbrev pub actors_tokens : List ℕ → ℕ → ℕ → List Token
actors_tokens cuts seed turns = Word (codes "actors") ∷ (index_tokens cuts ++ Word (codes "schedule") ∷ count_token seed ∷ Word (codes "turns") ∷ count_token turns ∷ [])

-- a kernel
abbrev pub kernel_tokens : KernelText → List Token
kernel_tokens (kernel.Axpy a x y) = form_tokens (kernel_word worded.Axpy) (number_tokens a ++ Sign Comma ∷ (path_tokens x ++ Sign Comma ∷ path_tokens y))
kernel_tokens (kernel.Clamp x lo hi) = form_tokens (kernel_word worded.Clamp) (path_tokens x ++ Sign Comma ∷ (number_tokens lo ++ Sign Comma ∷ number_tokens hi))
kernel_tokens (kernel.Sum x) = form_tokens (kernel_word worded.Sum) (path_tokens x)
kernel_tokens (kernel.Least x) = form_tokens (kernel_word worded.Least) (path_tokens x)
kernel_tokens (kernel.Greatest x) = form_tokens (kernel_word worded.Greatest) (path_tokens x)
kernel_tokens (kernel.CountWhere x op c) = form_tokens (kernel_word worded.CountWhere) (path_tokens x ++ operator op ∷ number_tokens c)

-- a window: its spans in brackets
abbrev pub span_tokens : Span → List Token
span_tokens span = count_token span.from ∷ Sign Colon ∷ count_token span.end ∷ []

abbrev pub window_tokens : List Span → List Token
window_tokens window = Word (codes "window") ∷ bracket_list (map span_tokens window)

-- weighted terms, in parentheses
abbrev pub term_tokens : TermText → List Token
term_tokens term = number_tokens term.weight ++ Sign Star ∷ (path_tokens term.path ++ Word (codes "at") ∷ bracket_list (map number_tokens term.offsets))

abbrev pub terms_tokens : List TermText → List Token
terms_tokens terms = Sign OpenParen ∷ (with_commas (map term_tokens terms) ++ Sign CloseParen ∷ [])

-- a pass that a layout is chosen for
abbrev pub pass_tokens : PassText → List Token
pass_tokens pass = Word (codes "pass") ∷ (with_commas (map path_tokens pass.paths) ++ Word (codes "times") ∷ count_token pass.times ∷ [])

-- a line
abbrev pub line_tokens : Sentence → List Token
line_tokens Blank = []
line_tokens (Define name tree) = Word (command_word command.Record) ∷ Word name ∷ held_tokens tree
line_tokens (Mapping name expr) = Word (command_word command.Mapping) ∷ Word name ∷ Sign Equals ∷ map_tokens expr
line_tokens (View new) = Word (command_word command.View) ∷ new_tokens new
line_tokens (Load new file) = Word (command_word command.Load) ∷ (new_tokens new ++ Word (codes "from") ∷ Text file ∷ [])
line_tokens (Assign view index path value) = Word (command_word command.Set) ∷ Word view ∷
    (index_tokens index ++ Sign Dot ∷ (path_tokens path ++ Sign Equals ∷ value_tokens value))
line_tokens (Update view filter sets) = update_tokens view filter sets
line_tokens (Actors view filter sets cuts seed turns) = update_tokens view filter sets ++ actors_tokens cuts seed turns
line_tokens (Kernel view text lanes) = Word (command_word command.Kernel) ∷ Word view ∷ (kernel_tokens text ++ Word (codes "lanes") ∷ count_token lanes ∷ [])
line_tokens (Reduce view kind path) = Word (command_word command.Reduce) ∷ Word view ∷ Word (reduction_word kind) ∷ path_tokens path
line_tokens (Count view filter) = Word (command_word command.Reduce) ∷ Word view ∷ Word (codes "count") ∷ Word (codes "where") ∷ value_tokens filter
line_tokens (Copy source target) = Word (command_word command.Copy) ∷ Word source ∷ Word (codes "to") ∷ Word target ∷ []
line_tokens (Relayout view expr) = Word (command_word command.Relayout) ∷ Word view ∷ Word (codes "as") ∷ map_tokens expr
line_tokens (Show kind view) = Word (command_word (command.Show kind)) ∷ Word view ∷ []
line_tokens (Drop view) = Word (command_word command.Drop) ∷ Word view ∷ []
line_tokens (Bytes view blob) = Word (command_word command.Bytes) ∷ Word view ∷ count_token blob ∷ []
line_tokens (Save view) = Word (command_word command.Save) ∷ Word view ∷ []
line_tokens (Open name file) = Word (command_word command.Open) ∷ Word name ∷ Word (codes "from") ∷ Text file ∷ []
line_tokens (Advise view granule passes maps splits) = Word (command_word command.Advise) ∷ Word view ∷ Word (codes "granule") ∷ count_token granule ∷
    (flat_map pass_tokens passes ++ Word (codes "among") ∷ (with_commas (map map_tokens maps) ++ flag_tokens (codes "splits") splits))
line_tokens (PrintWindow view window) = Word (command_word (command.Show show.Print)) ∷ Word view ∷ window_tokens window
line_tokens (Stencil view window path terms divisor rounds) = Word (command_word command.Stencil) ∷ Word view ∷ (window_tokens window ++ Word (codes "set") ∷
    (path_tokens path ++ Sign Equals ∷ (terms_tokens terms ++ Sign Slash ∷ count_token divisor ∷ Word (codes "rounds") ∷ count_token rounds ∷ [])))

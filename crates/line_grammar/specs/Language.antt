-- The grammar of a line, phrase by phrase, as values. A word or a sign in `behind` stands for itself, and `joined` puts one phrase
-- behind another. `version` is the version of the language.
use Rattle.std.specs.Prelude.{ℕ, zero, suc, Bool, true, false, List, [], ◌∷◌, Option, Some, None, codes, ℤ, neg_ℤ, Result}
use Rattle.line_grammar.specs.Grammar.{Grammar, item, behind, joined, either, which, nothing, repeats, deep, more, Is}
use Rattle.line_grammar.specs.Reading.{at}
use Rattle.line_tokens.specs.declared.sign.Sign.TheVariants.{OpenBrace, CloseBrace, OpenBracket, CloseBracket, OpenParen, CloseParen, Colon, Comma, Dot, Equals, Minus, Star, Slash, Arrow, Question}
use Rattle.record_dim.specs.declared.path.PathStep.{PathStep}
use Rattle.record_dim.specs.declared.path.PathStep.TheVariants as step
use Rattle.record_dim.specs.Prelude.{Tree, Single, Record, Array, Fields, End, Field}
use Rattle.extents.specs.declared.order.Order.{Order}
use Rattle.extents.specs.declared.window.Span.{Span}
use Rattle.extents.specs.declared.words.ExtentWord.{ExtentWord}
use Rattle.extents.specs.declared.words.ExtentWord.TheVariants as extent
use Rattle.expr_lang.specs.declared.expr.BinOp.{BinOp}
use Rattle.expr_lang.specs.Prelude.{Entry, Index, Neg, Not, Binary}
use Rattle.expr_lang.specs.Terms.{Number as Constant}
use Rattle.map_expr.specs.declared.widths.FieldWidth.{FieldWidth}
use Rattle.map_expr.specs.Terms.{Term as MapTerm, Aos, Soa, Aosoa, BitAos, BitSoa, Split, Byteswap, Bytesplit, Change, Count as Counted, Heat as Heated, Named}
use Rattle.line_grammar.specs.declared.token.Token.{Token}
use Rattle.line_grammar.specs.declared.token.Token.TheVariants.{Word, Sign}
use Rattle.line_grammar.specs.declared.line.Command.{Command}
use Rattle.line_grammar.specs.declared.line.Command.TheVariants as command
use Rattle.line_grammar.specs.declared.line.KernelText.{KernelText}
use Rattle.line_grammar.specs.declared.line.KernelText.TheVariants as kernel
use Rattle.line_grammar.specs.declared.line.KernelWord.{KernelWord}
use Rattle.line_grammar.specs.declared.line.KernelWord.TheVariants as kernel_word
use Rattle.line_grammar.specs.declared.line.MapWord.{MapWord}
use Rattle.line_grammar.specs.declared.line.MapWord.TheVariants as form
use Rattle.line_grammar.specs.declared.line.PassText.{PassText}
use Rattle.line_grammar.specs.declared.line.ShowKind.{ShowKind}
use Rattle.line_grammar.specs.declared.line.TermText.{TermText}
use Rattle.line_grammar.specs.declared.version.Version.{Version}
use Rattle.line_grammar.specs.Versions.{is_two, may_have_window}
use Rattle.line_grammar.specs.Tokens.{is_same, name_of, token_number, count_of, string_of, type_of, integer_type_of, token_order, aos_form_of, soa_form_of, map_word, index_of, choice_of, or_of, and_of, comparison_of, sum_of, product_of, kernel_word_of, reduction_of, command_of}
use Rattle.line_grammar.specs.Sentences.{Assignment, New, Sentence, Value, Blank, Define, Mapping, View, Load, Assign, Update, Actors, Kernel, Reduce, Count, Copy, Relayout, Show, Drop, Bytes, Save, Open, Advise, PrintWindow, Stencil}

-- how a phrase is read
abbrev pub read : {A : Type 0} → Grammar Token A → List Token → Result (A × List Token) ℕ
read one = at is_same one

-- NAME, NUMBER, COUNT, STRING
abbrev pub name : Grammar Token (List ℕ)
name = item name_of

abbrev pub number : Grammar Token ℤ
number = item token_number

abbrev pub count : Grammar Token ℕ
count = item count_of

abbrev pub string : Grammar Token (List ℕ)
string = item string_of

-- the phrases behind those found, each behind a comma
unfoldable pub later : {A : Type 0} → Grammar Token A → List A → Grammar Token (List A)
later one found = repeats (more (behind (Sign Comma) one)) found

-- phrase ("," phrase)*
unfoldable pub listed : {A : Type 0} → Grammar Token A → Grammar Token (List A)
listed one = joined one (λ first. later one (first ∷ []))

-- "[" phrase ("," phrase)* "]"
unfoldable pub bracket_list : {A : Type 0} → Grammar Token A → Grammar Token (List A)
bracket_list one = behind (Sign OpenBracket) (joined (listed one) (λ found. behind (Sign CloseBracket) (nothing found)))

-- "." NAME | "[" COUNT "]"
unfoldable pub part : Grammar Token PathStep
part = either
    (behind (Sign Dot) (joined name (λ name. nothing (step.Name name))))
    (behind (Sign OpenBracket) (joined count (λ number. behind (Sign CloseBracket) (nothing (step.At number)))))

unfoldable pub parts : List PathStep → Grammar Token (List PathStep)
parts found = repeats (more part) found

-- path = NAME ("." NAME | "[" COUNT "]")*
unfoldable pub path : Grammar Token (List PathStep)
path = joined name (λ name. parts (step.Name name ∷ []))

-- dims = ("[" COUNT "]")*
unfoldable pub dim : Grammar Token ℕ
dim = behind (Sign OpenBracket) (joined count (λ count. behind (Sign CloseBracket) (nothing count)))

unfoldable pub dims : List ℕ → Grammar Token (List ℕ)
dims found = repeats (more dim) found

-- the first count is the outermost: `u8[4][2]` is an array of 4 arrays of 2
abbrev pub arrays : List ℕ → Tree → Tree
arrays [] tree = tree
arrays (count ∷ counts) tree = Array count (arrays counts tree)

-- the fields of a record, in order
abbrev pub fields_of_list : List (List ℕ × Tree) → Fields
fields_of_list [] = End
fields_of_list (field ∷ fields) = Field field.0 field.1 (fields_of_list fields)

-- ":" TYPE dims, and fields dims
unfoldable pub typed : List ℕ → Grammar Token (List ℕ × Tree)
typed name = behind (Sign Colon) (joined (item type_of) (λ kind. joined (dims []) (λ counts. nothing (name, arrays counts (Single kind)))))

unfoldable pub nested : Grammar Token Fields → List ℕ → Grammar Token (List ℕ × Tree)
nested inner name = joined inner (λ fields. joined (dims []) (λ counts. nothing (name, arrays counts (Record fields))))

-- "{" field ("," field)* "}"
unfoldable pub braced : Grammar Token (List ℕ × Tree) → Grammar Token Fields
braced field = behind (Sign OpenBrace) (joined (listed field) (λ fields. behind (Sign CloseBrace) (nothing (fields_of_list fields))))

-- field = NAME ":" TYPE dims | NAME fields dims
-- fields = "{" field ("," field)* "}"
unfoldable pub field_within : ℕ → Grammar Token (List ℕ × Tree)
field_within zero = joined name typed
field_within (suc n) = joined name (λ name. either (typed name) (nested (braced (field_within n)) name))

unfoldable pub fields : Grammar Token Fields
fields = deep (λ n. braced (field_within n))

-- const = "-"? NUMBER
unfoldable pub constant : Grammar Token ℤ
constant = either (behind (Sign Minus) (joined number (λ value. nothing (neg_ℤ value)))) number

-- path ":" COUNT
unfoldable pub field_width : Grammar Token FieldWidth
field_width = joined path (λ path. behind (Sign Colon) (joined count (λ width. nothing (record { path = path; width = width }))))

-- "{" path ":" COUNT ("," path ":" COUNT)* "}"
unfoldable pub braced_widths : Grammar Token (List FieldWidth)
braced_widths = behind (Sign OpenBrace) (joined (listed field_width) (λ fields. behind (Sign CloseBrace) (nothing fields)))

-- nothing, or in the second version such widths in braces
unfoldable pub field_widths : Version → Grammar Token (List FieldWidth)
field_widths version = which (is_two version) (either braced_widths (nothing [])) (nothing [])

-- the inside of the brackets of the forms without mappings in them
-- ("packed" | "aligned" | "min") "," order
unfoldable pub inside_aos : Grammar Token MapTerm
inside_aos = joined (item aos_form_of) (λ form. behind (Sign Comma) (joined (item token_order) (λ order. nothing (Aos form order))))

-- ("single" | "aligned" | "multi") "," order
unfoldable pub inside_soa : Grammar Token MapTerm
inside_soa = joined (item soa_form_of) (λ form. behind (Sign Comma) (joined (item token_order) (λ order. nothing (Soa form order))))

-- COUNT "," order
unfoldable pub inside_aosoa : Grammar Token MapTerm
inside_aosoa = joined count (λ lanes. behind (Sign Comma) (joined (item token_order) (λ order. nothing (Aosoa lanes order))))

-- COUNT widths "," order
unfoldable pub inside_bits : Version → (ℕ → List FieldWidth → Order → MapTerm) → Grammar Token MapTerm
inside_bits version value = joined count (λ width. joined (field_widths version) (λ fields.
    behind (Sign Comma) (joined (item token_order) (λ order. nothing (value width fields order)))))

-- the inside of a form's brackets, in which mappings are `inner`
unfoldable pub inside_form : Version → Grammar Token MapTerm → MapWord → Grammar Token MapTerm
inside_form version inner form.Aos = inside_aos
inside_form version inner form.Soa = inside_soa
inside_form version inner form.Aosoa = inside_aosoa
inside_form version inner form.BitAos = inside_bits version BitAos
inside_form version inner form.BitSoa = inside_bits version BitSoa
-- path "," map "," map
inside_form version inner form.Split = joined path (λ path. behind (Sign Comma) (joined inner (λ first. behind (Sign Comma) (joined inner (λ rest. nothing (Split path first rest))))))
-- map
inside_form version inner form.Byteswap = joined inner (λ map. nothing (Byteswap map))
inside_form version inner form.Bytesplit = joined inner (λ map. nothing (Bytesplit map))
-- TYPE "->" INTTYPE "," map
inside_form version inner form.Change = joined (item type_of) (λ from. behind (Sign Arrow)
    (joined (item integer_type_of) (λ to. behind (Sign Comma) (joined inner (λ map. nothing (Change from to map))))))
-- map
inside_form version inner form.Count = joined inner (λ map. nothing (Counted map))
-- COUNT "," map
inside_form version inner form.Heat = joined count (λ granule. behind (Sign Comma) (joined inner (λ map. nothing (Heated granule map))))

-- a word that begins a form is that form where "(" follows it, and a NAME else
unfoldable pub form_or_name : Version → Grammar Token MapTerm → List ℕ → Option MapWord → Grammar Token MapTerm
form_or_name version inner word None = nothing (Named word)
form_or_name version inner word (Some form) = either
    (behind (Sign OpenParen) (joined (inside_form version inner form) (λ map. behind (Sign CloseParen) (nothing map))))
    (nothing (Named word))

-- map = WORD "(" .. ")" | NAME
unfoldable pub mapping_within : Version → ℕ → Grammar Token MapTerm
mapping_within version zero = joined name (λ word. nothing (Named word))
mapping_within version (suc n) = joined name (λ word. form_or_name version (mapping_within version n) word (map_word word))

unfoldable pub mapping : Version → Grammar Token MapTerm
mapping version = deep (mapping_within version)

-- phrase (operator phrase)*, grouped to the left
abbrev pub link : (Token → Option BinOp) → Grammar Token Value → Value → Grammar Token Value
link operator one left = joined (item operator) (λ op. joined one (λ right. nothing (Binary op left right)))

unfoldable pub links : (Token → Option BinOp) → Grammar Token Value → Value → Grammar Token Value
links operator one left = repeats (link operator one) left

unfoldable pub chain : (Token → Option BinOp) → Grammar Token Value → Grammar Token Value
chain operator one = joined one (links operator one)

-- a value with so many of one operator in front
abbrev pub wrapped : (Value → Value) → ℕ → Value → Value
wrapped wrap zero value = value
wrapped wrap (suc n) value = wrap (wrapped wrap n value)

-- token* phrase
unfoldable pub signs : Token → ℕ → Grammar Token ℕ
signs token n = repeats (λ k. behind token (nothing (suc k))) n

unfoldable pub prefixed : Token → (Value → Value) → Grammar Token Value → Grammar Token Value
prefixed token wrap one = joined (signs token zero) (λ n. joined one (λ value. nothing (wrapped wrap n value)))

-- unary = "-"* atom
-- prod = unary (("*" | "/" | "%") unary)*
-- sum = prod (("+" | "-") prod)*
unfoldable pub unary : Grammar Token Value → Grammar Token Value
unary atom = prefixed (Sign Minus) Neg atom

unfoldable pub product : Grammar Token Value → Grammar Token Value
product atom = chain product_of (unary atom)

unfoldable pub sum : Grammar Token Value → Grammar Token Value
sum atom = chain sum_of (product atom)

-- comp = sum (cmp sum)?
unfoldable pub comparison : Grammar Token Value → Grammar Token Value
comparison atom = joined (sum atom) (λ left. either (link comparison_of (sum atom) left) (nothing left))

-- neg = "not"* comp
-- conj = neg ("and" neg)*
-- expr = conj ("or" conj)*
unfoldable pub negation : Grammar Token Value → Grammar Token Value
negation atom = prefixed (Word (codes "not")) Not (comparison atom)

unfoldable pub conjunction : Grammar Token Value → Grammar Token Value
conjunction atom = chain and_of (negation atom)

unfoldable pub expr_over : Grammar Token Value → Grammar Token Value
expr_over atom = chain or_of (conjunction atom)

-- NUMBER | "i0" | "i1" | "i2" | "i3" | path
unfoldable pub leaf : Grammar Token Value
leaf = either (joined number (λ value. nothing (Constant value))) (either (joined (item index_of) (λ dimension. nothing (Index dimension)))
    (joined path (λ path. nothing (Entry path))))

-- ("min" | "max") "(" expr "," expr ")"
unfoldable pub choice : Grammar Token Value → Grammar Token Value
choice one = joined (item choice_of) (λ op. behind (Sign OpenParen)
    (joined one (λ left. behind (Sign Comma) (joined one (λ right. behind (Sign CloseParen) (nothing (Binary op left right)))))))

-- "(" expr ")", which gives no node
unfoldable pub bracketed : Grammar Token Value → Grammar Token Value
bracketed one = behind (Sign OpenParen) (joined one (λ value. behind (Sign CloseParen) (nothing value)))

-- atom = NUMBER | "i0" | "i1" | "i2" | "i3" | path | ("min" | "max") "(" expr "," expr ")" | "(" expr ")"
unfoldable pub atom_within : ℕ → Grammar Token Value
atom_within zero = leaf
atom_within (suc n) = either (bracketed (expr_over (atom_within n))) (either (choice (expr_over (atom_within n))) leaf)

unfoldable pub expr : Grammar Token Value
expr = deep (λ n. expr_over (atom_within n))

-- ext = COUNT | "?"
unfoldable pub fixed : Grammar Token ExtentWord
fixed = joined count (λ count. nothing (extent.Fixed count))

unfoldable pub extent_word : Grammar Token ExtentWord
extent_word = either (behind (Sign Question) (nothing extent.Rows)) fixed

-- path "=" expr
unfoldable pub assignment : Grammar Token Assignment
assignment = joined path (λ path. behind (Sign Equals) (joined expr (λ value. nothing (record { path = path; value = value }))))

-- ("where" expr)?
unfoldable pub filter : Grammar Token (Option Value)
filter = either (behind (Word (codes "where")) (joined expr (λ filter. nothing (Some filter)))) (nothing None)

-- "[" (COUNT ("," COUNT)*)? "]"
unfoldable pub cuts : Grammar Token (List ℕ)
cuts = behind (Sign OpenBracket) (either (behind (Sign CloseBracket) (nothing [])) (joined (listed count) (λ cuts. behind (Sign CloseBracket) (nothing cuts))))

-- actors = "actors" "[" (COUNT ("," COUNT)*)? "]" "schedule" COUNT "turns" COUNT
unfoldable pub actors : List ℕ → Option Value → List Assignment → Grammar Token Sentence
actors view filter sets = behind (Word (codes "actors")) (joined cuts (λ cuts. behind (Word (codes "schedule")) (joined count
    (λ seed. behind (Word (codes "turns")) (joined count (λ turns. nothing (Actors view filter sets cuts seed turns)))))))

-- nothing, or in the second version the actors of an update
unfoldable pub update_end : Version → List ℕ → Option Value → List Assignment → Grammar Token Sentence
update_end version view filter sets = which (is_two version) (either (actors view filter sets) (nothing (Update view filter sets))) (nothing (Update view filter sets))

-- COUNT ":" COUNT
unfoldable pub span : Grammar Token Span
span = joined count (λ from. behind (Sign Colon) (joined count (λ end. nothing (record { from = from; end = end }))))

-- win = "window" "[" COUNT ":" COUNT ("," COUNT ":" COUNT)* "]"
unfoldable pub window : Grammar Token (List Span)
window = behind (Word (codes "window")) (bracket_list span)

-- nothing, or in the second version the window of what is printed
unfoldable pub show_end : Version → ShowKind → List ℕ → Grammar Token Sentence
show_end version kind view = which (may_have_window version kind)
    (either (joined window (λ window. nothing (PrintWindow view window))) (nothing (Show kind view))) (nothing (Show kind view))

-- term = const "*" path "at" "[" const ("," const)* "]"
unfoldable pub term : Grammar Token TermText
term = joined constant (λ weight. behind (Sign Star) (joined path (λ path. behind (Word (codes "at")) (joined (bracket_list constant)
    (λ offsets. nothing (record { weight = weight; path = path; offsets = offsets }))))))

-- "(" term ("," term)* ")"
unfoldable pub terms : Grammar Token (List TermText)
terms = behind (Sign OpenParen) (joined (listed term) (λ terms. behind (Sign CloseParen) (nothing terms)))

-- pass = "pass" path ("," path)* "times" COUNT
unfoldable pub pass : Grammar Token PassText
pass = behind (Word (codes "pass")) (joined (listed path) (λ paths. behind (Word (codes "times")) (joined count
    (λ times. nothing (record { paths = paths; times = times })))))

unfoldable pub later_passes : List PassText → Grammar Token (List PassText)
later_passes found = repeats (more pass) found

-- pass pass*
unfoldable pub passes : Grammar Token (List PassText)
passes = joined pass (λ first. later_passes (first ∷ []))

-- the inside of a kernel's brackets
unfoldable pub inside_kernel : KernelWord → Grammar Token KernelText
-- const "," path "," path
inside_kernel kernel_word.Axpy = joined constant (λ a. behind (Sign Comma) (joined path (λ x. behind (Sign Comma) (joined path (λ y. nothing (kernel.Axpy a x y))))))
-- path "," const "," const
inside_kernel kernel_word.Clamp = joined path (λ x. behind (Sign Comma) (joined constant (λ lo. behind (Sign Comma) (joined constant (λ hi. nothing (kernel.Clamp x lo hi))))))
-- path
inside_kernel kernel_word.Sum = joined path (λ x. nothing (kernel.Sum x))
inside_kernel kernel_word.Least = joined path (λ x. nothing (kernel.Least x))
inside_kernel kernel_word.Greatest = joined path (λ x. nothing (kernel.Greatest x))
-- path cmp const
inside_kernel kernel_word.CountWhere = joined path (λ x. joined (item comparison_of) (λ op. joined constant (λ c. nothing (kernel.CountWhere x op c))))

-- kern = WORD "(" .. ")"
unfoldable pub kernel_text : Grammar Token KernelText
kernel_text = joined (item kernel_word_of) (λ word. behind (Sign OpenParen) (joined (inside_kernel word) (λ kernel. behind (Sign CloseParen) (nothing kernel))))

-- a word that may be missing
unfoldable pub flag : List ℕ → Grammar Token Bool
flag word = either (behind (Word word) (nothing true)) (nothing false)

-- NAME ":" NAME "[" phrase ("," phrase)* "]" "wrap"? "as" map
unfoldable pub new : Version → Grammar Token ExtentWord → Grammar Token New
new version word = joined name (λ name. behind (Sign Colon) (joined (item name_of) (λ schema. joined (bracket_list word) (λ words. joined (flag (codes "wrap")) (λ wrap.
    behind (Word (codes "as")) (joined (mapping version) (λ map. nothing (record { name = name; schema = schema; words = words; wrap = wrap; term = map }))))))))

-- what stands behind the word of a command
unfoldable pub body : Version → Command → Grammar Token Sentence
-- "record" NAME fields
body version command.Record = joined name (λ name. joined fields (λ fields. nothing (Define name (Record fields))))
-- "mapping" NAME "=" map
body version command.Mapping = joined name (λ name. behind (Sign Equals) (joined (mapping version) (λ map. nothing (Mapping name map))))
-- "view" NAME ":" NAME "[" COUNT ("," COUNT)* "]" "wrap"? "as" map
body version command.View = joined (new version fixed) (λ new. nothing (View new))
-- "load" NAME ":" NAME "[" ext ("," ext)* "]" "wrap"? "as" map "from" STRING
body version command.Load = joined (new version extent_word) (λ new. behind (Word (codes "from")) (joined string (λ file. nothing (Load new file))))
-- "set" NAME "[" COUNT ("," COUNT)* "]" "." path "=" expr
body version command.Set = joined name (λ view. joined (bracket_list count)
    (λ index. behind (Sign Dot) (joined path (λ path. behind (Sign Equals) (joined expr (λ value. nothing (Assign view index path value)))))))
-- "update" NAME ("where" expr)? "set" path "=" expr ("," path "=" expr)* actors?
body version command.Update = joined name (λ view. joined filter
    (λ filter. behind (Word (codes "set")) (joined (listed assignment) (λ sets. update_end version view filter sets))))
-- "kernel" NAME kern "lanes" COUNT
body version command.Kernel = joined name (λ view. joined kernel_text (λ kernel. behind (Word (codes "lanes")) (joined count (λ lanes. nothing (Kernel view kernel lanes)))))
-- "reduce" NAME "count" "where" expr | "reduce" NAME ("sum" | "min" | "max") path
body version command.Reduce = joined name (λ view. either
    (behind (Word (codes "count")) (behind (Word (codes "where")) (joined expr (λ filter. nothing (Count view filter)))))
    (joined (item reduction_of) (λ kind. joined path (λ path. nothing (Reduce view kind path)))))
-- "copy" NAME "to" NAME
body version command.Copy = joined name (λ source. behind (Word (codes "to")) (joined name (λ target. nothing (Copy source target))))
-- "relayout" NAME "as" map
body version command.Relayout = joined name (λ view. behind (Word (codes "as")) (joined (mapping version) (λ map. nothing (Relayout view map))))
-- ("print" | "counts" | "heat" | "layout") NAME, and "print" NAME win from the second version on
body version (command.Show kind) = joined name (λ view. show_end version kind view)
-- "drop" NAME
body version command.Drop = joined name (λ view. nothing (Drop view))
-- "bytes" NAME COUNT
body version command.Bytes = joined name (λ view. joined count (λ blob. nothing (Bytes view blob)))
-- "save" NAME, from the second version on
body version command.Save = joined name (λ view. nothing (Save view))
-- "open" NAME "from" STRING, from the second version on
body version command.Open = joined name (λ name. behind (Word (codes "from")) (joined string (λ file. nothing (Open name file))))
-- "advise" NAME "granule" COUNT pass pass* "among" map ("," map)* "splits"?, from the second version on
body version command.Advise = joined name (λ view. behind (Word (codes "granule")) (joined count (λ granule. joined passes
    (λ passes. behind (Word (codes "among")) (joined (listed (mapping version)) (λ maps. joined (flag (codes "splits")) (λ splits. nothing (Advise view granule passes maps splits))))))))
-- "stencil" NAME win "set" path "=" "(" term ("," term)* ")" "/" COUNT "rounds" COUNT, from the second version on
body version command.Stencil = joined name (λ view. joined window (λ window. behind (Word (codes "set")) (joined path (λ path. behind (Sign Equals) (joined terms
    (λ terms. behind (Sign Slash) (joined count (λ divisor. behind (Word (codes "rounds")) (joined count (λ rounds. nothing (Stencil view window path terms divisor rounds)))))))))))

-- line = command | nothing
unfoldable pub command_line : Version → Grammar Token Sentence
command_line version = joined (item (command_of version)) (body version)

unfoldable pub line : Version → Grammar Token Sentence
line version = either (command_line version) (nothing Blank)

-- the tokens are this line, however deep brackets nest
abbrev pub IsSentence : Version → List Token → Sentence → Type 0
IsSentence version = Is (line version)

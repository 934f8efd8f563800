-- The lines of a script without pointers, and the lines of the code's values.
use Rattle.std.specs.Prelude.{ℕ, max, Bool, List, [], ◌∷◌, map, Option, Some, None, option_map}
use Rattle.record_dim.specs.declared.path.PathStep.{PathStep}
use Rattle.record_dim.specs.Prelude.{Tree, tree_of}
use Rattle.extents.specs.declared.window.Span.{Span}
use Rattle.extents.specs.declared.words.ExtentWord.{ExtentWord}
use Rattle.expr_lang.specs.Prelude.{Term, term_of, depth_of}
use Rattle.map_expr.specs.Terms.{Term as MapTerm, term_of as map_of}
use Rattle.line_grammar.specs.declared.line.KernelText.{KernelText}
use Rattle.line_grammar.specs.declared.line.Line.{Line}
use Rattle.line_grammar.specs.declared.line.Line.TheVariants as line
use Rattle.line_grammar.specs.declared.line.PassText.{PassText}
use Rattle.line_grammar.specs.declared.line.ReduceKind.{ReduceKind}
use Rattle.line_grammar.specs.declared.line.SetText.{SetText}
use Rattle.line_grammar.specs.declared.line.ShowKind.{ShowKind}
use Rattle.line_grammar.specs.declared.line.ShowKind.TheVariants as show
use Rattle.line_grammar.specs.declared.line.TermText.{TermText}

-- an expression whose leaves are named by their paths
abbrev pub Value : Type 0
Value = Term (List PathStep)

-- the path of a leaf, and the value that it gets
pub record Assignment : Type 0 where
  pub path : List PathStep
  pub value : Value

-- what makes a view: its name, the name of its record, its extents, whether a store keeps low bits, and its mapping
pub record New : Type 0 where
  pub name : List ℕ
  pub schema : List ℕ
  pub words : List ExtentWord
  pub wrap : Bool
  pub term : MapTerm

-- a line; a name is its bytes, and a path the list of its steps
pub data Sentence : Type 0 where
  Blank : Sentence
  Define : List ℕ → Tree → Sentence
  Mapping : List ℕ → MapTerm → Sentence
  View : New → Sentence
  Load : New → List ℕ → Sentence
  Assign : List ℕ → List ℕ → List PathStep → Value → Sentence
  Update : List ℕ → Option Value → List Assignment → Sentence
  Actors : List ℕ → Option Value → List Assignment → List ℕ → ℕ → ℕ → Sentence
  Kernel : List ℕ → KernelText → ℕ → Sentence
  Reduce : List ℕ → ReduceKind → List PathStep → Sentence
  Count : List ℕ → Value → Sentence
  Copy : List ℕ → List ℕ → Sentence
  Relayout : List ℕ → MapTerm → Sentence
  Show : ShowKind → List ℕ → Sentence
  Drop : List ℕ → Sentence
  Bytes : List ℕ → ℕ → Sentence
  Save : List ℕ → Sentence
  Open : List ℕ → List ℕ → Sentence
  Advise : List ℕ → ℕ → List PassText → List MapTerm → Bool → Sentence
  PrintWindow : List ℕ → List Span → Sentence
  Stencil : List ℕ → List Span → List PathStep → List TermText → ℕ → ℕ → Sentence

-- the line that a value of the code stands for
abbrev pub assignment_of : SetText → Assignment
assignment_of set = record { path = set.path; value = term_of set.value }

abbrev pub sentence_of : Line → Sentence
sentence_of line.Blank = Blank
sentence_of (line.Define name dim) = Define name (tree_of dim)
sentence_of (line.Mapping name expr) = Mapping name (map_of expr)
sentence_of (line.View name schema words wrap expr) = View (record { name = name; schema = schema; words = words; wrap = wrap; term = map_of expr })
sentence_of (line.Load name schema words wrap expr file) = Load (record { name = name; schema = schema; words = words; wrap = wrap; term = map_of expr }) file
sentence_of (line.Assign view index path value) = Assign view index path (term_of value)
sentence_of (line.Update view filter sets) = Update view (option_map term_of filter) (map assignment_of sets)
sentence_of (line.Actors view filter sets cuts seed turns) = Actors view (option_map term_of filter) (map assignment_of sets) cuts seed turns
sentence_of (line.Kernel view kernel lanes) = Kernel view kernel lanes
sentence_of (line.Reduce view kind path) = Reduce view kind path
sentence_of (line.Count view filter) = Count view (term_of filter)
sentence_of (line.Copy source target) = Copy source target
sentence_of (line.Relayout view expr) = Relayout view (map_of expr)
sentence_of (line.Print view) = Show show.Print view
sentence_of (line.Counts view) = Show show.Counts view
sentence_of (line.Heat view) = Show show.Heat view
sentence_of (line.Layout view) = Show show.Layout view
sentence_of (line.Drop view) = Drop view
sentence_of (line.Bytes view blob) = Bytes view blob
sentence_of (line.SaveView view) = Save view
sentence_of (line.OpenFile name file) = Open name file
sentence_of (line.Advise view granule passes maps splits) = Advise view granule passes (map map_of maps) splits
sentence_of (line.PrintWindow view window) = PrintWindow view window
sentence_of (line.Stencil view window path terms divisor rounds) = Stencil view window path terms divisor rounds

-- the depth of the deepest expression, and 0 where there is none
abbrev pub deepest_set : List Assignment → ℕ
deepest_set [] = 0
deepest_set (set ∷ sets) = max (depth_of set.value) (deepest_set sets)

abbrev pub filter_depth : Option Value → ℕ
filter_depth None = 0
filter_depth (Some filter) = depth_of filter

abbrev pub deepest : Sentence → ℕ
deepest (Assign view index path value) = depth_of value
deepest (Update view filter sets) = max (filter_depth filter) (deepest_set sets)
deepest (Actors view filter sets cuts seed turns) = max (filter_depth filter) (deepest_set sets)
deepest (Count view filter) = depth_of filter
deepest _ = 0

-- what a line shows of a view, and the name of the view
abbrev pub show_of : Sentence → Option (ShowKind × List ℕ)
show_of (Show kind view) = Some (kind, view)
show_of _ = None

-- the name of the file that a line reads
abbrev pub file_read_by : Sentence → Option (List ℕ)
file_read_by (Load new file) = Some file
file_read_by (Open name file) = Some file
file_read_by _ = None

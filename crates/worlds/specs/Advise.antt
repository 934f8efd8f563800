-- `advise V granule G pass .. times N .. among .. splits` writes what mappings cost for some passes, and the cheapest of them.
use Rattle.std.specs.Prelude.{◌∷◌, ◌++◌}
use Rattle.worlds.specs.Imports.{ℕ, Bool, nat_lt, is_some, List, [], length, codes, Option, Some, None, Ok, range_with_len, enumerate_from, AdviseFault, Pass, comma_line, digits_text, joined, PassText, map_tokens, with_tokens_behind, bad_granule, MapTerm, PathStep, leaves_of, node_of, leaves_before, Fields, Record, Table, leaf_count_of, Read, all_accesses}
use Rattle.record_dim.specs.Std.{flat_map}
use Rattle.advisor.specs.Advice.{Advised, advice}
use Rattle.advisor.specs.declared.advice.AdviseFault.TheVariants as cause
use Rattle.worlds.specs.Worlds.{Entry}
use Rattle.worlds.specs.OnView.{Told}
use Rattle.worlds.specs.Outcomes.{Tested, ◌>>=◌, each, refused_if, some_or, ok_or}
use Rattle.worlds.specs.Names.{nameless}
use Rattle.worlds.specs.declared.fault.BadAdvice.TheVariants.{Granule, Passes, Candidates}
use Rattle.worlds.specs.declared.fault.CommandFault.{CommandFault}
use Rattle.worlds.specs.declared.fault.CommandFault.TheVariants.{BadAdvice, BadMapping, TooBig, Unknown}
use Rattle.worlds.specs.declared.fault.UnknownName.TheVariants as unknown

-- the leaves under the node that has a path, or the one that it is
abbrev pub leaves_at : Fields → List PathStep → Tested (List ℕ)
leaves_at fields path = do
  node ← some_or (Unknown (unknown.Path path)) (node_of fields path)
  Ok (range_with_len (leaves_before (Record fields) path) (length (leaves_of node)))

-- those of some paths, one path behind another
abbrev pub leaves_under : Fields → List (List PathStep) → Tested (List ℕ)
leaves_under fields paths = do
  lists ← each (leaves_at fields) paths
  Ok (joined lists)

-- a pass with the numbers of its leaves in place of its paths
abbrev pub bound_pass : Fields → PassText → Tested Pass
bound_pass fields text = do
  leaves ← leaves_under fields text.paths
  Ok (record { leaves = leaves; times = text.times })

-- a granule that may be asked for, at most 16 passes and at most 16 candidates
abbrev pub fit_advice : ℕ → ℕ → ℕ → Tested (Unit {0})
fit_advice granule passes candidates = do
  grain ← refused_if (is_some (bad_granule granule)) (BadAdvice Granule)
  short ← refused_if (nat_lt 16 passes) (BadAdvice Passes)
  refused_if (nat_lt 16 candidates) (BadAdvice Candidates)

-- why a listed candidate is none; want of memory is no fault of it
abbrev pub advise_fault : AdviseFault → CommandFault
advise_fault (cause.Bad candidate bad) = BadMapping bad
advise_fault (cause.TooBig candidate) = TooBig
advise_fault cause.NoMemory = TooBig

-- what a candidate costs; one that does not suit the values of the table is `narrow`
abbrev pub cost_words : Option ℕ → List ℕ
cost_words None = codes "narrow"
cost_words (Some cost) = digits_text cost

-- `best COST EXPR` with the canonical text of the expression, or `best none`
abbrev pub best_words : Option (ℕ × MapTerm) → List ℕ
best_words None = codes "best none"
best_words (Some best) = with_tokens_behind (codes "best " ++ digits_text best.0) (map_tokens best.1)

-- a line for each listed candidate, counted from 1, and one for the best
abbrev pub cost_line : ℕ × Option ℕ → List ℕ
cost_line listed = comma_line (digits_text listed.0 ∷ cost_words listed.1 ∷ [])

unfoldable pub advice_text : Advised → List ℕ
advice_text advised = codes "candidate,cost\n" ++ flat_map cost_line (enumerate_from 1 advised.costs) ++ best_words advised.best ++ codes "\n"

-- what is asked: the passes, and the candidates that are listed
pub record Question : Type 0 where
  pub passes : List Pass
  pub terms : List MapTerm

abbrev pub asked : List (Entry MapTerm) → Table → ℕ → List PassText → List MapTerm → Tested Question
asked mappings table granule texts terms = do
  whole ← each (nameless mappings) terms
  passes ← each (bound_pass table.fields) texts
  fit ← fit_advice granule (length texts) (length terms)
  Ok (record { passes = passes; terms = whole })

-- each value of the table is read once
abbrev pub advised_of : Table → ℕ → Bool → Question → Tested Told
advised_of table granule splits question = do
  advised ← ok_or advise_fault (advice table granule question.passes question.terms splits)
  Ok (record { log = all_accesses Read (leaf_count_of table) (length table.rows); text = advice_text advised })

-- with these mappings for the names
unfoldable pub advise : List (Entry MapTerm) → Table → ℕ → List PassText → List MapTerm → Bool → Tested Told
advise mappings table granule texts terms splits = do
  question ← asked mappings table granule texts terms
  advised_of table granule splits question

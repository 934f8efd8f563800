-- The parts of an update by actors.
use Rattle.std.specs.Prelude.{ℕ, ◌≡◌, ◌*◌, ◌^◌, ◌≤◌, not, nat_lt, All, IfSome, List, [], length, map, sum_by, Option, None, option_map, Ok}
use Rattle.view_commands.specs.Imports.{AreCuts, actor_of, written_by, shared_byte, bound_term, Term, Value, Assignment, Setting, IsBoundOver, IsSetOf, setting_of, updated_of, update_log, Table, owners_of, reads_first, fit_cuts, shared, memory_text, bound_filter, bound_sets, each_once, leaves_of, Done, Tested, ◌>>=◌, refused_if, refused_by, ok_or, small, update_fault, Cuts, Turns, BadActors}
use Rattle.view_commands.specs.declared.by_actors.Team.{Team}

-- what the words of an update stand for: its filter, and the leaves that are set
pub record Bindings : Type 0 where
  pub test : Option (Term ℕ)
  pub settings : List Setting

abbrev pub bindings_of : Team → Bindings
bindings_of team = record { test = option_map bound_term team.filter; settings = map setting_of team.sets.items }

-- them, where nothing refuses the update before its values are looked at
abbrev pub shared_out : Table → Option Value → List Assignment → List ℕ → ℕ → Tested Bindings
shared_out table filter sets cuts turns = do
  test ← bound_filter table.fields (length table.extents) filter
  settings ← bound_sets table.fields (length table.extents) sets
  once ← each_once table.fields [] (leaves_of settings)
  fit ← refused_if (not (fit_cuts cuts (length table.rows))) (BadActors Cuts)
  few ← refused_if (nat_lt (2 ^ 20) turns) (BadActors Turns)
  shown ← small table
  apart ← refused_by shared (shared_byte (owners_of table) (actor_of cuts))
  Ok (record { test = test; settings = settings })

-- what is done then
abbrev pub acted : Table → Bindings → List ℕ → ℕ → ℕ → Tested Done
acted table bound cuts seed turns = do
  rows ← ok_or (update_fault table.fields) (updated_of table bound.test bound.settings (length table.rows))
  Ok (record {
    rows = rows;
    log = reads_first (update_log table bound.test bound.settings (length table.rows));
    text = memory_text (written_by table bound.test bound.settings cuts seed turns);
  })

-- actors can be made of a team for a table
pub record IsTeamOf (table : Table) (team : Team) : Type 0 where
  pub filter : IfSome team.filter (IsBoundOver table)
  pub sets : All (IsSetOf table) team.sets.items
  pub few_sets : length team.sets.items ≤ 64
  pub cuts : AreCuts 0 team.cuts.items (length table.rows)
  pub few_cuts : length team.cuts.items ≤ 63
  pub small : sum_by length (owners_of table) ≤ 8 * 65536
  pub apart : shared_byte (owners_of table) (actor_of team.cuts.items) ≡ None

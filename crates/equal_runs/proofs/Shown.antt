-- What a run shows of its accesses.
use Rattle.equal_runs.proofs.Imports.{◌≡◌, ℕ, Bool, List, [], ◌∷◌, ◌++◌, length, Option, Some, sym, ap, subst, ◌∙◌, arith, append_assoc, IfSome, File, Owner, texts_of, Sentence, Version, LeafCounts, HeatCounts, counts_text, heat_text, AreEntries, AreCounts, AreHeat, Access, Tally, tallied, no_tally, Table, owners_of, leaf_count_of, World, found, done_to, on_view, Outcome, LeftOf, Left, known, counts, heat, step, run_from, prepend, fails_at, Output, AreLines, DoesLines, SoFar, at_first, one_more, logs_after, Comes, there, further, log_of, ShowsCounts, ShowsHeat, ShowsEntries, tally_since, IfGoes, to, bind, behind, gone, known_found, Shows, does, surely, ◌+◌, Tested, Told}
use Rattle.map_expr.specs.Terms.{Term}
use Rattle.equal_runs.proofs.Entries.{none}
use Rattle.equal_runs.proofs.Logs.{AreCounted, counted_at, step_keeps}

-- the accesses are those that the tables have counted, as far as a run comes
comes_counted : (files : List File) (unread : Option ℕ) (number : ℕ) (now last : SoFar) (lines : List Sentence) → Comes files unread number now lines last → AreCounted now.world.views now.logs → AreCounted last.world.views last.logs
comes_counted files unread number now last lines (there _ _) all = all
comes_counted files unread number now last lines (further _ _ line left rest _ goes more) all =
    comes_counted files unread (number + 1) (one_more now line left) last rest more (gone (λ (l : Left). AreCounted l.held.views (logs_after now.world line l.held now.logs)) (step now.world line files (fails_at unread number)) left (step_keeps now.world now.logs all files (fails_at unread number) line) goes)

pub last_counted : (files : List File) (unread : Option ℕ) (lines : List Sentence) (now : SoFar) → Comes files unread 1 at_first lines now → AreCounted now.world.views now.logs
last_counted files unread lines now comes = comes_counted files unread 1 at_first now lines comes none

prepend-append : (a b : List ℕ) (output : Output) → prepend a (prepend b output) ≡ prepend (a ++ b) output
prepend-append a b output = ap (λ bytes. record { bytes = bytes; end = output.end }) (sym (append_assoc a b output.bytes))

-- the run over the texts of such lines
comes_on : (version : Version) (files : List File) (outcome : World → List ℕ → Bool → Outcome Left) → DoesLines version files outcome → (unread : Option ℕ) (number : ℕ) (now last : SoFar) (lines : List Sentence)
    → Comes files unread number now lines last → (texts more : List (List ℕ)) → AreLines version texts lines
    → prepend now.text (run_from outcome number now.world (texts ++ more) unread) ≡ prepend last.text (run_from outcome (number + length lines) last.world more unread)
comes_on version files outcome does unread number now last lines (there _ _) [] more are = grind arith
comes_on version files outcome does unread number now last lines (further _ _ line left rest _ goes comes) (text ∷ texts) more are =
    grind (arith, prepend-append, (comes_on version files outcome does unread (number + 1) (one_more now line left) last rest comes texts more are.1))
comes_on version files outcome does unread number now last lines comes texts more are = absurd are

-- a law of what is counted, as it is told
abbrev pub AreTold : Type 0
AreTold = (term : Term) (layout : List (List Owner)) (leaves : ℕ) (log : List Access) → AreEntries layout leaves log (tallied layout (no_tally term layout leaves) log)

module _ (told : AreTold) (files : List File) (unread : Option ℕ) (lines : List Sentence) (now : SoFar) (comes : Comes files unread 1 at_first lines now) (name : List ℕ) where
  tally_is : (table : Table) → found name now.world.views ≡ Some table → tally_since table (log_of now name) ≡ table.tally
  tally_is table is = sym (counted_at name now.world.views now.logs table (last_counted files unread lines now comes) is)

  entries_at : (table : Table) → found name now.world.views ≡ Some table → AreEntries (owners_of table) (leaf_count_of table) (log_of now name) table.tally
  entries_at table is = subst (AreEntries (owners_of table) (leaf_count_of table) (log_of now name)) (tally_is table is) (told table.mapping (owners_of table) (leaf_count_of table) (log_of now name))

  some_counts : {A : Type 0} (P : A → Type 0) (x : Option A) (a : A) → IfSome x P → x ≡ Some a → P a
  some_counts P x a all is = grind arith

  -- what is told of a table is of numbers that it has
  abbrev CountsTold : Table → List ℕ → Type 0
  CountsTold table text = (numbers : LeafCounts) × (table.tally.counts ≡ Some numbers) × (text ≡ counts_text (texts_of table.fields) numbers)

  counts_told : (table : Table) → IfGoes (λ (new : LeftOf Table). CountsTold table new.text) (done_to table (does (Shows counts) table))
  unfolding counts
  counts_told table = grind (arith, bind, to, known_found)

  abbrev HeatTold : Table → List ℕ → Type 0
  HeatTold table text = (numbers : HeatCounts) × (table.tally.heat ≡ Some numbers) × (text ≡ heat_text numbers)

  heat_told : (table : Table) → IfGoes (λ (new : LeftOf Table). HeatTold table new.text) (done_to table (does (Shows heat) table))
  unfolding heat
  heat_told table = grind (arith, bind, to, known_found)

  -- what holds of what is told of the table of the name holds of what the command shows
  shown : (command : Table → Tested Told) (P : List ℕ → Type 0) (IsTold : Table → List ℕ → Type 0) → ((table : Table) → IfGoes (λ (new : LeftOf Table). IsTold table new.text) (done_to table (does (Shows command) table)))
      → ((table : Table) → found name now.world.views ≡ Some table → (text : List ℕ) → IsTold table text → P text) → IfGoes (λ (left : Left). P left.text) (on_view now.world name (does (Shows command)))
  unfolding on_view
  shown command P IsTold told_of shows =
      bind (λ (left : Left). P left.text) (known name now.world.views) _ (λ table t.
      behind (λ (left : Left). P left.text) (λ (new : LeftOf Table). IsTold table new.text) (done_to table (does (Shows command) table)) _ (told_of table)
      (λ new is. to _ (shows table (known_found _ (found name now.world.views) table t) new.text is)))

  pub shows_counts : IfGoes (λ (left : Left). ShowsCounts now name left.text) (on_view now.world name (does (Shows counts)))
  shows_counts = shown counts (ShowsCounts now name) CountsTold counts_told (λ table is text told_of. record {
    table = table;
    is = is;
    numbers = told_of.0;
    shown = told_of.2;
    counted = ap (λ (t : Tally). t.counts) (tally_is table is) ∙ told_of.1;
    each = some_counts (AreCounts (leaf_count_of table) (log_of now name)) table.tally.counts told_of.0 (entries_at table is).counts told_of.1;
  })

  pub shows_heat : IfGoes (λ (left : Left). ShowsHeat now name left.text) (on_view now.world name (does (Shows heat)))
  shows_heat = shown heat (ShowsHeat now name) HeatTold heat_told (λ table is text told_of. record {
    table = table;
    is = is;
    numbers = told_of.0;
    shown = told_of.2;
    counted = ap (λ (t : Tally). t.heat) (tally_is table is) ∙ told_of.1;
    each = some_counts (AreHeat (owners_of table) (log_of now name)) table.tally.heat told_of.0 (entries_at table is).heat told_of.1;
  })

pub shows_entries : AreTold → (version : Version) (files : List File) (outcome : World → List ℕ → Bool → Outcome Left) → DoesLines version files outcome → ShowsEntries version files outcome
unfolding step
shows_entries told version files outcome does = record {
  runs = λ texts more lines unread now are comes. comes_on version files outcome does unread 1 at_first now lines comes texts more are ∙ ap (λ (n : ℕ). prepend now.text (run_from outcome n now.world more unread)) (order (length lines));
  counts = λ lines unread now name fails left comes is. gone _ _ left (surely _ _ (shows_counts told files unread lines now comes name)) is;
  heat = λ lines unread now name fails left comes is. gone _ _ left (surely _ _ (shows_heat told files unread lines now comes name)) is;
} where
  order : (n : ℕ) → 1 + n ≡ n + 1
  order n = omega arith

-- One line and another that differs in its mapping expression, done to alike worlds.
use Rattle.equal_runs.proofs.Imports.{◌≡◌, Bool, false, List, File, MapTerm, World, step, live_bits, with_term, shows_layout, misses_mapping, MakesWide, work_of}
use Rattle.line_grammar.specs.declared.line.ShowKind.TheVariants as show
use Rattle.line_grammar.specs.Sentences as line
use Rattle.equal_runs.proofs.Commands.{assigned_agree, updated_agree, ran_agree, copy_agree, drop_agree, AlikeLines, reads, works, worked_agree, counts_agree}
use Rattle.equal_runs.proofs.News.{define_agree, mapping_agree, view_agree as new_agree, load_agree, open_agree, relayout_agree}
use Rattle.equal_runs.proofs.Stencils.{stencil_agree}
use Rattle.equal_runs.proofs.Tables.{AlikeWorlds, AlikeLefts}
use Rattle.equal_runs.proofs.Agreeing.{EndAlike, surely}

-- what a line does to a view, however the tables lie: a line that only reads has no arm
lines_agree : (m o : Bool) (world other : World) (term : MapTerm) (sentence : line.Sentence) → shows_layout sentence ≡ false
    → AlikeLines m o (work_of world sentence) (work_of other (with_term term sentence))
lines_agree m o world other term (line.Assign name index path value) plain = works name _ _ (λ table mapping tally same. assigned_agree m o table mapping tally same index path value)
lines_agree m o world other term (line.Update name filter sets) plain = works name _ _ (λ table mapping tally same. updated_agree m o table mapping tally same filter sets)
lines_agree m o world other term (line.Kernel name text lanes) plain = works name _ _ (λ table mapping tally same. ran_agree m o table mapping tally same text lanes)
lines_agree m o world other term (line.Stencil name spans path terms divisor rounds) plain =
    works name _ _ (λ table mapping tally same. stencil_agree m o table mapping tally same (live_bits world.views) (live_bits other.views) spans path terms divisor rounds)
lines_agree m o world other term (line.Show show.Counts name) plain = works name _ _ (λ table mapping tally same. counts_agree m o table mapping tally same)
lines_agree m o world other term (line.Show show.Print name) plain = reads _ tt
lines_agree m o world other term (line.Show kind name) plain = absurd (cc)
lines_agree m o world other term (line.Bytes name blob) plain = absurd (cc)
lines_agree m o world other term (line.Save name) plain = absurd (cc)
lines_agree m o world other term (line.Actors name filter sets cuts seed turns) plain = absurd (cc)
lines_agree m o world other term (line.Advise name granule passes terms splits) plain = absurd (cc)
lines_agree m o world other term sentence plain = reads _ tt

module _ (world other : World) (alike : AlikeWorlds world other) (term : MapTerm) (files : List File) (unread : Bool) where
  pub step_agree : (sentence : line.Sentence) → shows_layout sentence ≡ false
      → EndAlike (misses_mapping world sentence) (misses_mapping other (with_term term sentence)) (AlikeLefts (MakesWide sentence) (MakesWide (with_term term sentence)))
      (step world sentence files unread) (step other (with_term term sentence) files unread)
  unfolding step
  step_agree (line.Define name tree) plain = surely _ _ _ (define_agree world other alike false false name tree)
  step_agree (line.Mapping name old) plain = surely _ _ _ (mapping_agree world other alike name old term)
  step_agree (line.View new) plain = surely _ _ _ (new_agree world other alike new term)
  step_agree (line.Load new file) plain = load_agree world other alike new term file files unread
  step_agree (line.Copy name target) plain = surely _ _ _ (copy_agree false false world other alike name target)
  step_agree (line.Relayout name old) plain = surely _ _ _ (relayout_agree world other alike name old term)
  step_agree (line.Drop name) plain = surely _ _ _ (drop_agree false false world other alike name)
  step_agree (line.Open name file) plain = open_agree world other alike false false name file files unread
  step_agree sentence plain =
      surely _ _ _ (worked_agree _ _ world other alike (work_of world sentence) (work_of other (with_term term sentence)) (lines_agree _ _ world other term sentence plain))

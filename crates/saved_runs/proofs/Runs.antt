-- Each table of a run can be said by a file.
use Rattle.saved_runs.proofs.Imports.{ℕ, ◌+◌, List, [], ◌∷◌, Option, MatchResult, File, Reads, StopsAt, Sentence, Version, Two, line_of, tokens_read, OpensFiles, HoldsBits, HoldsRows, Left, step, fails_at, AreLines, SoFar, one_more, Comes, further, gone, RunsSavable, IsLine, arith}
use Rattle.equal_runs.specs.Logs.{there}
use Rattle.saved_runs.proofs.Lines.{IsSaid, sentence_said}
use Rattle.saved_runs.proofs.Worlds.{IsGoodWorld, of_found}
use Rattle.saved_runs.proofs.Steps.{step_good}

module _ (opens_files : OpensFiles) (holds_rows : HoldsRows) (holds_bits : HoldsBits) (law : (version : Version) (text : List ℕ) → MatchResult (line_of version text) (Reads version text) (StopsAt version text)) where
  line_said : (text : List ℕ) (line : Sentence) → IsLine Two text line → IsSaid line
  line_said text line is = grind (arith, tokens_read, sentence_said)

  comes_good : (files : List File) (unread : Option ℕ) (number : ℕ) (now last : SoFar) (lines : List Sentence) → Comes files unread number now lines last
      → (texts : List (List ℕ)) → AreLines Two texts lines → IsGoodWorld now.world → IsGoodWorld last.world
  comes_good files unread number now last lines (there _ _) texts are good = good
  comes_good files unread number now last lines (further _ _ line left rest _ goes more) [] are good = absurd are
  comes_good files unread number now last lines (further _ _ line left rest _ goes more) (text ∷ texts) are good =
      comes_good files unread (number + 1) (one_more now line left) last rest more texts are.1
      (gone (λ (l : Left). IsGoodWorld l.held) (step now.world line files (fails_at unread number)) left (step_good holds_bits now.world good opens_files holds_rows files (fails_at unread number) line (line_said text line are.0)) goes)

  pub runs_savable : RunsSavable
  runs_savable texts lines files unread now name table are comes is = grind (arith, comes_good, of_found)

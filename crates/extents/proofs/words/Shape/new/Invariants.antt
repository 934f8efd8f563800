use Rattle.extents.proofs.Imports.{◌≡◌, take}
use Rattle.extents.proofs.words.Shape.new.Given as goal

abbrev pub invariant-loop-word : goal.invariant-loop-word
invariant-loop-word l = l.copied.items ≡ take l.word-index l.words

use Rattle.blob_file.proofs.Imports.{◌≡◌, take, map, Fixed}
use Rattle.blob_file.proofs.texts.words_of.Given as goal

abbrev pub invariant-loop-d : goal.invariant-loop-d
invariant-loop-d l = l.words ≡ map Fixed (take l.d l.extents)

-- what is read on gives the whole list
use Rattle.line_phrases.proofs.Imports.{◌≡◌, length, map, term_of, read, later, listed, mapping}
use Rattle.line_phrases.proofs.maps.read_maps.Given as goal

abbrev pub invariant-loop-alloc : goal.invariant-loop-alloc
invariant-loop-alloc l = read (later (mapping l.version) (map term_of l.maps)) l.tokens ≡ read (listed (mapping l.version)) l.fn.tokens

abbrev pub decreases-loop-alloc : goal.decreases-loop-alloc
decreases-loop-alloc l = length l.tokens

use Rattle.extents.proofs.Imports.{◌≡◌, take, map, fixed_size}
use Rattle.extents.proofs.window.Window.new.Given as goal

abbrev pub invariant-loop-span : goal.invariant-loop-span
invariant-loop-span l = (l.kept.items ≡ take l.span-index l.spans) × (l.words.items ≡ map fixed_size (take l.span-index l.spans))

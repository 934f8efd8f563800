-- The rows that are measured.
use Rattle.std.specs.Prelude.{ℤ, List, [], ◌∷◌}
use Rattle.bench_layouts.specs.declared.sample.Sample.{Sample}

-- the numbers of x, y, z and w in a row
abbrev pub numbers_of : Sample → List ℤ
numbers_of sample = sample.x ∷ sample.y ∷ sample.z ∷ sample.w ∷ []

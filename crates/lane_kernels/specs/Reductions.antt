-- One number of many: their sum, the least or the greatest of them.
use Rattle.std.specs.Prelude.{ℤ, pos, ◌+ℤ◌, List, [], ◌∷◌, fold, Option, Some, None, option_map}
use Rattle.record_dim.specs.Std.{int_min, int_max}
use Rattle.std.specs.Option.{unwrap_or}
use Rattle.piece_bits.specs.Prelude.{SumsFit}
use Rattle.lane_kernels.specs.declared.reduce.Reduction.{Reduction}
use Rattle.lane_kernels.specs.declared.reduce.Reduction.TheVariants.{Sum, Least, Greatest}

-- the least and the greatest of some numbers
abbrev pub extreme : (ℤ → ℤ → ℤ) → List ℤ → Option ℤ
extreme pick [] = None
extreme pick (number ∷ numbers) = Some (fold pick number numbers)

-- what a reduction gives of some numbers: the sum of none is 0, and none have a least or a greatest
abbrev pub reduced_by : Reduction → List ℤ → Option ℤ
reduced_by Sum numbers = Some (fold (λ a b. a +ℤ b) (pos 0) numbers)
reduced_by Least numbers = extreme int_min numbers
reduced_by Greatest numbers = extreme int_max numbers

-- what it gives of some numbers and of more of them, where it is known of the former, if there are any
abbrev pub extreme_with : (ℤ → ℤ → ℤ) → Option ℤ → List ℤ → Option ℤ
extreme_with pick None more = extreme pick more
extreme_with pick (Some number) more = Some (fold pick number more)

abbrev pub with_more : Reduction → Option ℤ → List ℤ → Option ℤ
with_more Sum number more = Some (fold (λ a b. a +ℤ b) (unwrap_or number (pos 0)) more)
with_more Least number more = extreme_with int_min number more
with_more Greatest number more = extreme_with int_max number more

-- each sum on the way is a number of the type, where sums are asked for; `value` and `fits` are the type's
abbrev pub CanAdd : {T : Type 0} → (T → ℤ) → (ℤ → Type 0) → Reduction → Option T → List T → Type 0
CanAdd value fits Sum number more = SumsFit value fits (unwrap_or (option_map value number) (pos 0)) more
CanAdd value fits _ number more = Unit {0}

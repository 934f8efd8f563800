-- A number of any length, brought below 2^66 without a change of its 64 low bits.
use Rattle.std.specs.Prelude.{◌≡◌, ℕ, suc, ◌+◌, ◌*◌, ◌-◌, ◌%◌, ◌^◌, ◌<◌, ◌≤◌, Bool, ℤ, pos, negsuc, neg_ℤ}
use Rattle.piece_bits.specs.Imports.{sym, ap, ◌∙◌, arith, ints, cases_lt, nat_tests, mod-mod-pow, LeafType, Hold, number_bits}
use Rattle.piece_bits.specs.LowBits.{low_bits, declared, kept}
use Rattle.piece_bits.specs.Inner.Far.{folded, shortened}
use Rattle.piece_bits.specs.CongruenceLaws.{digits_negsuc}

near : (n : ℕ) → n < 2 ^ 65 → folded n ≡ n
near n l = grind (arith, nat_tests)

far : (n : ℕ) → 2 ^ 65 ≤ n → folded n ≡ 2 ^ 65 + n % 2 ^ 64
far n l = grind (arith, nat_tests)

-- one digit more
pub fold_next : (n d : ℕ) → folded (folded n * 10 + d) ≡ folded (n * 10 + d)
fold_next n d = grind (arith, near, far, cases_lt)

pub folded_low : (n : ℕ) → folded n % 2 ^ 64 ≡ n % 2 ^ 64
folded_low n = grind (arith, near, far, cases_lt)

pub folded_far : (n : ℕ) → 2 ^ 65 ≤ n → 2 ^ 65 ≤ folded n
folded_far n great = omega (arith, far n great)

pub folded_near : (n : ℕ) → n < 2 ^ 65 → folded n ≡ n
folded_near = near

fewer_bits : (n m width : ℕ) → width ≤ 64 → n % 2 ^ 64 ≡ m % 2 ^ 64 → n % 2 ^ width ≡ m % 2 ^ width
fewer_bits n m width few same =
    let whole : 64 ≡ (64 - width) + width = omega (arith, few) in
    let one : n % 2 ^ 64 % 2 ^ width ≡ n % 2 ^ width = ap (λ (w : ℕ). n % 2 ^ w % 2 ^ width) whole ∙ mod-mod-pow n (64 - width) width in
    sym one ∙ ap (λ (w : ℕ). w % 2 ^ width) same ∙ (ap (λ (w : ℕ). m % 2 ^ w % 2 ^ width) whole ∙ mod-mod-pow m (64 - width) width)

positive : (n : ℕ) → 1 ≤ folded (suc n)
positive n = grind (arith, near, far, cases_lt)

negative : (m : ℕ) → 1 ≤ m → neg_ℤ (pos m) ≡ negsuc (m - 1)
negative m some = omega (arith, ints)

-- the low bits stand
pub shortened_low : (signed : Bool) (width : ℕ) (value : ℤ) → width ≤ 64 → low_bits signed width (shortened value) ≡ low_bits signed width value
shortened_low signed width value few = grind (arith, number_bits, fewer_bits, folded_low, negsuc, negative, positive, digits_negsuc)

pub shortened_kept : (kind : LeafType) (hold : Hold) (value : ℤ) → hold.width ≤ 64 → kept kind hold (shortened value) ≡ kept kind hold value
shortened_kept kind hold value few = ap (declared kind) (shortened_low hold.signed hold.width value few)

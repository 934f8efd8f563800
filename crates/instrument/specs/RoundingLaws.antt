-- Granules: how many there are, and in which a piece has bits.
use Rattle.std.specs.Prelude.{◌≡◌, ℕ, suc, ◌+◌, ◌-◌, ◌*◌, ◌/◌, ◌%◌, ◌<◌, ◌≤◌, nat_lt, nat_le, min, max, ◌&&◌}
use Rattle.record_dim.specs.Std.{sym, ap, ◌∙◌, arith, ⊎_elim, div_ceil, lt-ltb, le-ltb, le-leb, lt-leb, and_left, and_right, and_from, cases_lt, div-add-mod', div-mul-add, mod_below, mul-le-mul_left, mul-suc, suc-mul, mul_comm}
use Rattle.instrument.specs.Counters.{granules_of}

rounded_by : (whole rest granule : ℕ) → rest < granule → (whole * granule + rest + (granule - 1)) / granule ≡ whole + min 1 rest
rounded_by whole rest granule low = grind (arith, div-mul-add, suc-mul)

-- their number is a division that rounds up
pub rounded : (bytes granule : ℕ) → 1 ≤ granule → granules_of granule bytes ≡ div_ceil bytes granule
rounded bytes granule some = ap (λ n. (n + (granule - 1)) / granule) (sym (div-add-mod' bytes granule)) ∙ rounded_by (bytes / granule) (bytes % granule) granule (mod_below bytes granule (omega arith))

-- the place of a bit in a row of places that have so many bits each
pub row_begin : (bit wide : ℕ) → 0 < wide → wide * (bit / wide) ≤ bit
row_begin bit wide some = omega (arith, div-add-mod' bit wide, mul_comm (bit / wide) wide)

row_end : (bit wide : ℕ) → 0 < wide → bit < wide * suc (bit / wide)
row_end bit wide some = omega (arith, div-add-mod' bit wide, mul_comm (bit / wide) wide, mod_below bit wide some, mul-suc wide (bit / wide))

-- bits from one place up to another meet a place between both, and no other
meets : (bit end wide first last at : ℕ) → wide * first ≤ bit → bit < wide * suc first → wide * last < end → end ≤ wide * suc last → bit < end →
    nat_lt (max bit (wide * at)) (min end (wide * suc at)) ≡ (nat_le first at && nat_lt at (suc last))
meets bit end wide first last at begin_in begin_out end_in end_out some =
    ⊎_elim
    (λ (before : at < first). grind (arith, mul-le-mul_left, le-ltb, and_left, nat_le, nat_lt, lt-leb))
    (λ (from : first ≤ at). ⊎_elim
    (λ (within : at < suc last). grind (arith, mul-le-mul_left, mul-suc, lt-ltb, and_from, nat_le, nat_lt, le-leb))
    (λ (behind : suc last ≤ at). grind (arith, mul-le-mul_left, le-ltb, and_right, nat_le, nat_lt))
    (cases_lt at (suc last)))
    (cases_lt at first)

pub reaches : (bit bits wide at : ℕ) → 0 < bits → 0 < wide →
    nat_lt (max bit (wide * at)) (min (bit + bits) (wide * (at + 1))) ≡ (nat_le (bit / wide) at && nat_lt at ((bit + bits - 1) / wide + 1))
reaches bit bits wide at some granule =
    let after : at + 1 ≡ suc at = omega arith in
    let behind : suc ((bit + bits - 1) / wide) ≡ (bit + bits - 1) / wide + 1 = omega arith in
    grind (arith, nat_lt, meets, row_begin, row_end, nat_le)

-- Blobs that are put one after another, and blocks of one that go to the sink.
use Rattle.blob_file.proofs.Imports.{◌≡◌, ℕ, ◌+◌, ◌<◌, List, [], ◌++◌, length, take, drop, get_or, refl, sym, ap, subst, Option, Result, Ok, Err, IsErr, arith, take-add, take-append-drop, Gathers, Puts, HasPut, Gathers-written, Puts-append, Wrote, Stopped, Writes, flat_map_push, Wrote-append, Stopped-first, Stopped-second}
use Rattle.std.specs.Prelude.{flat_map}

-- what a call that ended well put, whatever its answer is made of
as_put : {K T E : Type 0} {taken : K → Option (List ℕ)} {faults : K → ℕ} {old new : K} {was held text : List ℕ} {value : T} → Puts {E = E} taken faults old new was held (Ok value) text → HasPut taken faults old new was held text
as_put puts = record { gathers = puts.gathers; bound = puts.bound; fits = λ small. (refl, (puts.fits small).1, (puts.fits small).2); stopped = tt }

-- and what a call of any answers put that has put it
pub has_put : {K T E : Type 0} {taken : K → Option (List ℕ)} {faults : K → ℕ} {old new : K} {was held text : List ℕ} {value : T} → HasPut taken faults old new was held text → Puts {T = T} {E = E} taken faults old new was held (Ok value) text
has_put puts = record { gathers = puts.gathers; bound = puts.bound; fits = λ small. (refl, (puts.fits small).1, (puts.fits small).2); stopped = tt }

-- a part more
pub part_more : {K X T E : Type 0} {taken : K → Option (List ℕ)} {faults : K → ℕ} {old mid new : K} {was kept held : List ℕ} {value : T} (text : X → List ℕ) (parts : List X) (i : ℕ) (d : X) → i < length parts
    → HasPut taken faults old mid was kept (flat_map text (take i parts)) → Puts {E = E} taken faults mid new kept held (Ok value) (text (get_or parts i d)) → HasPut taken faults old new was held (flat_map text (take (i + 1) parts))
part_more {taken} {faults} {old} {new} {was} {held} text parts i d small before step =
    subst (λ (t : List ℕ). HasPut taken faults old new was held t) (flat_map_push text parts i d small) (Puts-append before (as_put step))

-- a block more of the bytes that were written before
pub block_written : {K : Type 0} {taken : K → Option (List ℕ)} {faults : K → ℕ} {first mid new : K} (blob block : List ℕ) (done count : ℕ) → block ≡ take count (drop done blob)
    → Wrote taken faults first mid (take done blob) → Wrote taken faults mid new block → Wrote taken faults first new (take (done + count) blob)
block_written {taken} {faults} {first} {mid} {new} blob block done count is before wrote =
    rw (take-add done count blob) (Wrote-append before (subst (λ (t : List ℕ). Wrote taken faults mid new t) is wrote))

-- a stop in a block
pub block_stopped : {K T E : Type 0} {taken : K → Option (List ℕ)} {faults : K → ℕ} {first mid new : K} (result : Result T E) (blob block : List ℕ) (done count : ℕ) → IsErr result → block ≡ take count (drop done blob)
    → Wrote taken faults first mid (take done blob) → Stopped taken faults mid new block → Writes taken faults first new result blob
block_stopped (Ok value) blob block done count err is before stop = absurd (cc)
block_stopped {taken} {faults} {first} {mid} {new} (Err error) blob block done count err is before stop =
    let part : Stopped taken faults first new (take (done + count) blob) =
    rw (take-add done count blob) (Stopped-second before (subst (λ (t : List ℕ). Stopped taken faults mid new t) is stop)) in
    subst (λ (t : List ℕ). Stopped taken faults first new t) (take-append-drop (done + count) blob) (Stopped-first (drop (done + count) blob) part)

-- a text that no buffer holds, and a stop before it
pub large_stopped : {K T E : Type 0} {taken : K → Option (List ℕ)} {faults : K → ℕ} {old new : K} {was held : List ℕ} (result : Result T E) (text : List ℕ) → IsErr result → 4096 < length text → held ≡ []
    → ((first : K) (before : List ℕ) → Gathers taken faults first old was before → Stopped taken faults first new before) → Puts taken faults old new was held result text
large_stopped result text err long empty flushed = grind (arith, Stopped-first)

-- and one that was written behind what the buffer held
pub large_put : {K T E : Type 0} {taken : K → Option (List ℕ)} {faults : K → ℕ} {old mid new : K} {was held : List ℕ} (result : Result T E) (text : List ℕ) → 4096 < length text → held ≡ []
    → ((first : K) (before : List ℕ) → Gathers taken faults first old was before → Wrote taken faults first mid before) → Writes taken faults mid new result text → Puts taken faults old new was held result text
large_put {taken} {faults} {new} (Ok value) text long empty flushed wrote = record {
  gathers = λ first before gathers. subst (λ (h : List ℕ). Gathers taken faults first new h (before ++ text)) (sym empty) (Gathers-written (Wrote-append (flushed first before gathers) wrote));
  bound = λ bound. omega (arith, ap (length {A = ℕ}) empty);
  fits = λ fits. absurd (omega (arith, fits, long));
  stopped = tt;
}
large_put (Err error) text long empty flushed stop = grind (arith, Stopped-second)

-- What the loop over writes keeps.
use Rattle.layout_io.proofs.Imports.{◌≡◌, ℕ, ◌+◌, ◌-◌, ◌<◌, ◌≤◌, List, [], take, drop, length, Option, ap, ◌∙◌, arith, length-drop, take-add, take_rest, with_bytes, Wrote, Wrote-append}

-- a front of the bytes was written
pub record WritesFront {K : Type 0} (taken : K → Option (List ℕ)) (faults : K → ℕ) (first now : K) (bytes : List ℕ) (done : ℕ) : Type 0 where
  pub within : done ≤ length bytes
  pub wrote : Wrote taken faults first now (take done bytes)
  pub idle : bytes ≡ [] → now ≡ first

-- one write more, of a front of the rest
pub WritesFront-more : {K : Type 0} {taken : K → Option (List ℕ)} {faults : K → ℕ} {first mid : K} {bytes : List ℕ} {done : ℕ} (new : K) (count : ℕ)
    → WritesFront taken faults first mid bytes done → done < length bytes → count ≤ length (take (length bytes - done) (drop done bytes))
    → taken new ≡ with_bytes (taken mid) (take count (take (length bytes - done) (drop done bytes))) → faults new ≡ faults mid
    → WritesFront taken faults first new bytes (done + count)
WritesFront-more {taken} {faults} {first} {mid} {bytes} {done} new count front small bound took unfailed =
    let rest = take_rest bytes done in
    let more : Wrote taken faults mid new (take count (drop done bytes)) = record { bytes = took ∙ ap (λ part. with_bytes (taken mid) (take count part)) rest; unfailed = unfailed } in
    record {
      within = omega (arith, ap length rest, length-drop done bytes);
      wrote = rw (take-add done count bytes) (Wrote-append front.wrote more);
      idle = λ empty. absurd (omega (arith, ap length empty));
    }

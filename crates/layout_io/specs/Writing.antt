-- What a function that writes leaves in its sink. A sink either tells the bytes that it took or tells nothing.
use Rattle.std.specs.Prelude.{◌≡◌, ℕ, ◌<◌, List, ◌++◌, length, take, Option, Some, None, Result, MatchResult, flat_map}
use Rattle.layout_io.specs.Faults.{Rose}

-- the texts, one after another
abbrev pub joined : List (List ℕ) → List ℕ
joined texts = flat_map (λ text. text) texts

-- what a sink has taken after these bytes more
abbrev pub with_bytes : Option (List ℕ) → List ℕ → Option (List ℕ)
with_bytes None bytes = None
with_bytes (Some held) bytes = Some (held ++ bytes)

-- from old to new the sink took this text, and no write failed
pub record Wrote {K : Type 0} (taken : K → Option (List ℕ)) (faults : K → ℕ) (old new : K) (text : List ℕ) : Type 0 where
  pub bytes : taken new ≡ with_bytes (taken old) text
  pub unfailed : faults new ≡ faults old

-- from old to new the sink took a proper prefix of this text, and its count of faults rose
pub record Stopped {K : Type 0} (taken : K → Option (List ℕ)) (faults : K → ℕ) (old new : K) (text : List ℕ) : Type 0 where
  pub count : ℕ
  pub proper : count < length text
  pub bytes : taken new ≡ with_bytes (taken old) (take count text)
  pub rose : Rose (faults old) (faults new)

-- on `Ok` the sink took the whole text; on `Err` it stopped within it
abbrev pub Writes : {K T E : Type 0} → (K → Option (List ℕ)) → (K → ℕ) → K → K → Result T E → List ℕ → Type 0
Writes taken faults old new result text = MatchResult result (λ _. Wrote taken faults old new text) (λ _. Stopped taken faults old new text)

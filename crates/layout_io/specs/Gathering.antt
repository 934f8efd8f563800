-- A text that is gathered in a buffer on its way to a sink.
use Rattle.std.specs.Prelude.{◌≡◌, ℕ, ◌+◌, ◌≤◌, List, [], ◌++◌, length, Option, Result, MatchResult, Ok, IsOk, OnErr}
use Rattle.layout_io.specs.Writing.{with_bytes, Stopped}

-- since the sink was `first` it took the front of this text, the buffer holds the rest, and no write failed
pub record Gathers {K : Type 0} (taken : K → Option (List ℕ)) (faults : K → ℕ) (first now : K) (held text : List ℕ) : Type 0 where
  pub sent : List ℕ
  pub bytes : taken now ≡ with_bytes (taken first) sent
  pub whole : sent ++ held ≡ text
  pub unfailed : faults now ≡ faults first

-- on `Ok` the text is gathered; on `Err` the sink stopped within it
abbrev pub GathersOrStops : {K T E : Type 0} → (K → Option (List ℕ)) → (K → ℕ) → K → K → Result T E → List ℕ → List ℕ → Type 0
GathersOrStops taken faults first now result held text = MatchResult result (λ _. Gathers taken faults first now held text) (λ _. Stopped taken faults first now text)

-- a piece more: it is gathered behind any text that was gathered before; where it fits into the buffer of 4,096 bytes nothing else happens; and where a write failed the buffer is empty
pub record Puts {K T E : Type 0} (taken : K → Option (List ℕ)) (faults : K → ℕ) (old new : K) (was held : List ℕ) (result : Result T E) (piece : List ℕ) : Type 0 where
  pub gathers : (first : K) (text : List ℕ) → Gathers taken faults first old was text → GathersOrStops taken faults first new result held (text ++ piece)
  pub bound : length was ≤ 4096 → length held ≤ 4096
  pub fits : length was + length piece ≤ 4096 → IsOk result × (new ≡ old) × (held ≡ was ++ piece)
  pub stopped : OnErr result (held ≡ [])

-- so far this text was put, and no write failed: what a loop keeps
abbrev pub HasPut : {K : Type 0} → (K → Option (List ℕ)) → (K → ℕ) → K → K → List ℕ → List ℕ → List ℕ → Type 0
HasPut taken faults old now was held text = Puts {T = Unit {0}} {E = Unit {0}} taken faults old now was held (Ok tt) text

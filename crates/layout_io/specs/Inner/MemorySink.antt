-- What contracts see of a sink in memory, and what one write to it answers.
use Rattle.std.specs.Prelude.{◌≡◌, ℕ, ◌-◌, ◌^◌, ◌<◌, ◌≤◌, ◌⊎◌, min, List, [], ◌++◌, length, take, Contains, Result, MatchResult}
use Rattle.layout_io.specs.Faults.{one_more}

-- the bytes taken, how many bytes there is room for in all, the numbers of the calls that will fail, the most bytes that one call takes, and how many calls and faults there were
pub record SinkState : Type 0 where
  pub bytes : List ℕ
  pub room : ℕ
  pub listed : List ℕ
  pub piece : ℕ
  pub calls : ℕ
  pub faults : ℕ

-- nothing taken, no listed call, no bound on a piece
abbrev pub empty_sink : ℕ → SinkState
empty_sink room = record { bytes = []; room = room; listed = []; piece = 2 ^ 64 - 1; calls = 0; faults = 0 }

-- the call that comes now is listed, or there is a byte to take and no room for it
abbrev pub WriteFails : SinkState → List ℕ → Type 0
WriteFails state bytes = Contains state.listed state.calls ⊎ ((0 < length bytes) × (state.room ≤ length state.bytes))

-- how many bytes a write that does not fail takes: the least of the piece, the bound and the room
abbrev pub write_count : SinkState → List ℕ → ℕ
write_count state bytes = min (length bytes) (min state.piece (state.room - length state.bytes))

-- one write: it fails exactly where it must, and then takes nothing and is counted
abbrev pub WritesPiece : {E : Type 0} → SinkState → SinkState → List ℕ → Result ℕ E → Type 0
WritesPiece old new bytes result =
    MatchResult result
    (λ n. (¬ WriteFails old bytes) × (n ≡ write_count old bytes) × (new ≡ record old { bytes = old.bytes ++ take n bytes; calls = one_more old.calls }))
    (λ _. WriteFails old bytes × (new ≡ record old { calls = one_more old.calls; faults = one_more old.faults }))

-- What the loop over full buffers keeps.
use Rattle.layout_io.proofs.Imports.{◌≡◌, ℕ, List, [], ◌++◌, Option, ap, ◌∙◌, append_assoc, Wrote, Stopped, Stopped-front, Gathers, Gathers-append, Gathers-written, arith}

-- a front of the piece is gathered behind what the buffer held at first, and the rest is to come
pub record PutsFront {K : Type 0} (taken : K → Option (List ℕ)) (faults : K → ℕ) (first now : K) (start held piece rest : List ℕ) : Type 0 where
  pub done : List ℕ
  pub parts : done ++ rest ≡ piece
  pub gathers : Gathers taken faults first now held (start ++ done)

-- a full buffer was handed to the sink
pub PutsFront-more : {K : Type 0} {taken : K → Option (List ℕ)} {faults : K → ℕ} {first mid : K} {start held piece rest : List ℕ} (new : K) (front back full : List ℕ) → front ++ back ≡ rest → full ≡ held ++ front
    → PutsFront taken faults first mid start held piece rest
    → ((from : K) (text : List ℕ) → Gathers taken faults from mid full text → Wrote taken faults from new text)
    → PutsFront taken faults first new start [] piece back
PutsFront-more {first} {start} new front back full parts fills so_far flushed = record {
  done = so_far.done ++ front;
  parts = append_assoc so_far.done front back ∙ ap (λ more. so_far.done ++ more) parts ∙ so_far.parts;
  gathers = rw (← append_assoc start so_far.done front) (Gathers-written (flushed first _ (rw fills (Gathers-append front so_far.gathers))));
}

-- the sink stopped within a full buffer
pub PutsFront-stop : {K : Type 0} {taken : K → Option (List ℕ)} {faults : K → ℕ} {first mid : K} {start held piece rest : List ℕ} (new : K) (front back full : List ℕ) → front ++ back ≡ rest → full ≡ held ++ front
    → PutsFront taken faults first mid start held piece rest
    → ((from : K) (text : List ℕ) → Gathers taken faults from mid full text → Stopped taken faults from new text)
    → Stopped taken faults first new (start ++ piece)
PutsFront-stop {first} {start} {piece} {rest} new front back full parts fills so_far flushed =
    let whole : ((start ++ so_far.done) ++ front) ++ back ≡ start ++ piece = append_assoc (start ++ so_far.done) front back ∙ ap (λ more. (start ++ so_far.done) ++ more) parts ∙ append_assoc start so_far.done rest ∙ ap (λ all. start ++ all) so_far.parts in
    Stopped-front back (start ++ piece) whole (flushed first _ (rw fills (Gathers-append front so_far.gathers)))

-- the rest fits into the buffer
pub PutsFront-all : {K : Type 0} {taken : K → Option (List ℕ)} {faults : K → ℕ} {first now : K} {start held piece rest : List ℕ}
    → PutsFront taken faults first now start held piece rest → Gathers taken faults first now (held ++ rest) (start ++ piece)
PutsFront-all {taken} {faults} {first} {now} {start} {held} {rest} front = grind (arith, append_assoc, Gathers-append)

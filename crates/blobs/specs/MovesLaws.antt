-- Blocks of bytes that are moved, one behind another.
use Rattle.std.specs.Prelude.{◌≡◌, ℕ, ◌+◌, ◌-◌, ◌<◌, ◌≤◌, List, length, get_or}
use Rattle.record_dim.specs.Std.{⊎_elim, ap, ◌∙◌, arith, length-append, cases_lt, length-take-le, length-drop, get_or-take, get_or-drop, get_or_append_left, get_or-append_right}
use Rattle.blobs.specs.Moves.{IsMoved, with_moved}

-- one block
pub moved_bytes : (old : List ℕ) (at : ℕ) (others : List ℕ) (from len : ℕ) (new : List ℕ) → at + len ≤ length old → from + len ≤ length others → new ≡ with_moved old at others from len
    → IsMoved old at others from len new
moved_bytes old at others from len new room there is = grind (arith, length-take-le, length-drop, length-append, get_or-append_right, get_or_append_left, get_or-take, get_or-drop)

-- a block behind what was moved
pub moved_more : (old : List ℕ) (at : ℕ) (others : List ℕ) (from done len : ℕ) (now new : List ℕ) (place source : ℕ) → place ≡ at + done → source ≡ from + done
    → IsMoved old at others from done now → IsMoved now place others source len new → IsMoved old at others from (done + len) new
moved_more old at others from done len now new place source p s one two = record {
  inside = λ k l.
      ⊎_elim
      (λ (low : k < done). two.before (at + k) (omega arith) ∙ one.inside k low)
      (λ (high : done ≤ k).
      let here : at + k ≡ place + (k - done) = omega arith in
      let there : source + (k - done) ≡ from + k = omega arith in
      ap (λ (n : ℕ). get_or new n 0) here ∙ two.inside (k - done) (omega arith) ∙ ap (λ (n : ℕ). get_or others n 0) there)
      (cases_lt k done);
  before = λ k l. two.before k (omega arith) ∙ one.before k l;
  behind = λ k l. two.behind k (omega arith) ∙ one.behind k (omega arith);
  size = two.size ∙ one.size;
}

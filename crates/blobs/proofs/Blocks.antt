-- A block of bytes that is copied through an array.
use Rattle.blobs.proofs.Imports.{◌≡◌, ℕ, ◌+◌, ◌<◌, ◌≤◌, List, length, get_or, take, drop, sym, ◌∙◌, arith, same_lists, get_or-take, get_or-drop, get_or_default, length-take, length-drop}

pub copied : (block source : List ℕ) (from len : ℕ) → len ≤ length block → from + len ≤ length source
    → ((j : ℕ) → j < len → get_or block j 0 ≡ get_or source (from + j) 0) → take len block ≡ take len (drop from source)
copied block source from len room there same =
    let long : length (take len block) ≡ len = omega (arith, length-take len block) in
    let other : length (take len (drop from source)) ≡ len = omega (arith, length-take len (drop from source), length-drop from source) in
    same_lists (take len block) (take len (drop from source)) (long ∙ sym other)
    (λ k d inside. grind (arith, get_or-take, get_or_default, get_or-drop))

-- Bytes that are copied from other bytes.
use Rattle.std.specs.Prelude.{ℕ, ◌≡◌, ◌+◌, ◌/◌, ◌<◌, ◌≤◌, List, ◌++◌, length, take, drop, slice_index_or}

-- bytes with `len` of them, from byte `at` on, in place of which stand those of others from byte `from` on
abbrev pub with_moved : List ℕ → ℕ → List ℕ → ℕ → ℕ → List ℕ
with_moved bytes at others from len = take at bytes ++ (take len (drop from others) ++ drop (at + len) bytes)

-- byte by byte
pub record IsMoved (old : List ℕ) (at : ℕ) (others : List ℕ) (from len : ℕ) (new : List ℕ) : Type 0 where
  pub inside : (k : ℕ) → k < len → slice_index_or new (at + k) 0 ≡ slice_index_or others (from + k) 0
  pub before : (k : ℕ) → k < at → slice_index_or new k 0 ≡ slice_index_or old k 0
  pub behind : (k : ℕ) → at + len ≤ k → slice_index_or new k 0 ≡ slice_index_or old k 0
  pub size : length new ≡ length old

-- the blocks of at most 64 bytes that so many bytes are
abbrev pub blocks : ℕ → ℕ
blocks bytes = (bytes + 63) / 64

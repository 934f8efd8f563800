-- Words of whole bytes, in their order or in reverse.
use Rattle.piece_bits.proofs.Imports.{◌≡◌, ℕ, zero, suc, ◌+◌, ◌-◌, ◌*◌, ◌<◌, Bool, List, length, get_or, refl, ap, arith, Hold, Piece, PieceRule, turned_pieces, Field, Word, pieces_by, IsHeldBy, IsWhole, IsTurned, rules}
use Rattle.piece_bits.proofs.Together.{piece}

-- ---- whole bytes

pub whole_held : (word : Word) (hold : Hold) (field : Field) → IsWhole word hold.signed hold.width → IsHeldBy hold word field
whole_held word hold field h = grind arith

-- ---- bytes in reverse order

pub turned_held : (word : Word) (hold : Hold) (field : Field) → IsTurned word hold.signed hold.width → IsHeldBy hold word field
turned_held word hold field h = grind arith

pub turned_by : (word : Word) (signed : Bool) (width n : ℕ) (field : Field) (blob : ℕ) (rules : List PieceRule) (place : ℕ) → IsTurned word signed width
    → 8 * n ≡ width → turned_pieces blob (8 * place) n ≡ pieces_by word field blob rules place
turned_by word signed width n field blob rules place h e = grind arith

pub length-turned : (blob bit n : ℕ) → length (turned_pieces blob bit n) ≡ n
length-turned blob bit zero = refl
length-turned blob bit (suc n) = ap (λ (m : ℕ). suc m) (length-turned blob bit n)

pub get_or-turned : (blob bit n k : ℕ) (d : Piece) → k < n → get_or (turned_pieces blob bit n) k d ≡ piece blob (bit + 8 * (n - 1 - k)) 8
get_or-turned blob bit zero k d low = absurd (omega arith)
get_or-turned blob bit (suc n) zero d low = ap (λ (m : ℕ). piece blob (bit + 8 * m) 8) (omega arith)
get_or-turned blob bit (suc n) (suc k) d low = grind (arith, (get_or-turned blob bit n k d (omega arith)))

-- ---- words that stand in one place

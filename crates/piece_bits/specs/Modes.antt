-- What a view of either mode keeps of its entries.
use Rattle.std.specs.Prelude.{ℕ, ◌≡◌, ◌<◌, ℤ, List, [], ◌∷◌, length, map, slice_index_or}
use Rattle.piece_bits.specs.Imports.{LeafType, Truth, IsIn, IsDeclared, Hold, entry}
use Rattle.piece_bits.specs.Tables.{hold_at}
use Rattle.piece_bits.specs.LowBits.{declared, held, kept}
use Rattle.piece_bits.specs.declared.mode.StoreMode.{StoreMode}
use Rattle.piece_bits.specs.declared.mode.StoreMode.TheVariants.{Strict, Wrap}

-- the type of a leaf
abbrev pub kind_at : List LeafType → ℕ → LeafType
kind_at kinds leaf = slice_index_or kinds leaf Truth

-- the numbers that raw ones stand for: each is brought into the declared range of its leaf
abbrev pub declared_row : List LeafType → List ℤ → List ℤ
declared_row (kind ∷ kinds) (raw ∷ raws) = declared kind raw ∷ declared_row kinds raws
declared_row _ _ = []

abbrev pub declared_table : List LeafType → List (List ℤ) → List (List ℤ)
declared_table kinds table = map (declared_row kinds) table

-- a value fits
pub record Fits (kind : LeafType) (hold : Hold) (value : ℤ) : Type 0 where
  pub declared : IsDeclared kind value
  pub held : IsIn hold.signed hold.width value

-- what a view of this mode holds: a value that fits, or that a store keeps as it is
abbrev pub Stays : StoreMode → LeafType → Hold → ℤ → Type 0
Stays Strict kind hold value = Fits kind hold value
Stays Wrap kind hold value = kept kind hold value ≡ value

-- a raw number is what the image of its entry says, and the entry stays
pub record IsSettled (mode : StoreMode) (kind : LeafType) (hold : Hold) (raw : ℤ) : Type 0 where
  pub stays : Stays mode kind hold (declared kind raw)
  pub image : raw ≡ held hold (declared kind raw)

-- each raw number of a table is
abbrev pub AllSettled : StoreMode → ℕ → List LeafType → List Hold → List (List ℤ) → Type 0
AllSettled mode rows kinds holds raw =
    (row leaf : ℕ) → row < rows → leaf < length kinds → IsSettled mode (kind_at kinds leaf) (hold_at holds leaf) (entry raw row leaf)

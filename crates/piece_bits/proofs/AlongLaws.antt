-- A short form that is put together of a path and what stands at its places.
use Rattle.piece_bits.proofs.Imports.{◌≡◌, ℕ, ◌≤◌, ◌^◌, List, length, sym, subst, Order, indices, Hold, PieceRule, Field, Word, IsAlong, IsRowPath, StandsFor, IsHeldBy, IsShortOf, IsStandOf, IsStandFor, Path, ShortRule, Stand, arith, rules}

stands_along : (rules : List PieceRule) (field : Field) (word word' : Word) (blob blob' base base' block block' lane lane' power power' : ℕ) → word' ≡ word
    → blob' ≡ blob → base' ≡ base → block' ≡ block → lane' ≡ lane → power' ≡ power → StandsFor rules word field blob base block lane power
    → StandsFor rules word' field blob' base' block' lane' power'
stands_along rules field word word' blob blob' base base' block block' lane lane' power power' one two three four five six h =
    subst (λ (w : Word). StandsFor rules w field blob' base' block' lane' power') (sym one)
    (subst (λ (n : ℕ). StandsFor rules word field n base' block' lane' power') (sym two)
    (subst (λ (n : ℕ). StandsFor rules word field blob n block' lane' power') (sym three)
    (subst (λ (n : ℕ). StandsFor rules word field blob base n lane' power') (sym four)
    (subst (λ (n : ℕ). StandsFor rules word field blob base block n power') (sym five)
    (subst (λ (n : ℕ). StandsFor rules word field blob base block lane n) (sym six) h)))))

pub short_of : (order : Order) (extents : List ℕ) (rules : List PieceRule) (hold : Hold) (path : Path) (stand : Stand) (short : ShortRule)
    → IsAlong path stand hold short → IsStandFor rules hold stand → IsRowPath order extents stand.power path.walk path.lines path.columns.columns
    → length (indices extents) ≤ 2 ^ 24 → IsShortOf order extents rules hold short
short_of order extents rules hold path stand short along stands leads rows =
    let is : IsStandOf rules hold short.field stand = stands short.field along.signed along.width in
    record {
      held = subst (λ (w : Word). IsHeldBy hold w short.field) (sym along.word) is.held;
      stands = stands_along rules short.field stand.word short.word stand.blob short.blob stand.base short.base stand.block short.block stand.lane short.lane
          stand.power short.power along.word along.blob along.base along.block along.lane along.power is.stands;
      path = grind arith;
      rows = rows;
    }

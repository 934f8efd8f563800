-- Orders: from an index to its slot, and from a slot to its row.
use Rattle.std.specs.Prelude.{ℕ, ◌-◌, ◌*◌, ◌/◌, ◌%◌, ◌^◌, ◌==◌, List, [], length, fold, max, reverse, nat_eq, nat_le, sum_by, slice_index_or, Option}
use Rattle.std.specs.Int.{bit_at}
use Rattle.std.specs.List.{position, position_or_len, range_with_len}
use Rattle.std.specs.Cmp.Lexicographic.{pointwise}
use Rattle.extents.specs.declared.order.Order.{Order}
use Rattle.extents.specs.declared.order.Order.TheVariants.{Row, Col, Morton}
use Rattle.extents.specs.Indices.{indices}

-- the place of an index in a list of indices
abbrev pub place_in : List (List ℕ) → List ℕ → ℕ
place_in list index = position_or_len (λ entry. pointwise nat_eq entry index) list

-- the number whose binary digit b * rank + (rank - 1 - d) is digit b of component d, for each b and d (the Z order; Morton 1966).
-- No component has a digit from its own value on. A proof opens it by name, as it does `digits_for`: at written-out numbers it is a long sum
unfoldable pub interleaved : List ℕ → ℕ
interleaved index = let rank = length index in
    sum_by (λ k. 2 ^ k * bit_at (slice_index_or index (rank - 1 - k % rank) 0) (k / rank)) (range_with_len 0 (rank * fold max 0 index))

-- the least number of binary digits that all components inside the extents have room in: the first b with no extent above 2 ^ b
unfoldable pub digits_for : List ℕ → ℕ
digits_for extents = position_or_len (λ b. nat_le (fold max 0 extents) (2 ^ b)) (range_with_len 0 (fold max 0 extents))

-- the slot of an index: by rows its place among the indices, by columns the place of the reversed
-- index among those of the reversed extents, in Morton order its digits interleaved
abbrev pub slot_of : Order → List ℕ → List ℕ → ℕ
slot_of Row extents index = place_in (indices extents) index
slot_of Col extents index = place_in (indices (reverse extents)) (reverse index)
slot_of Morton extents index = interleaved index

-- how many slots there are; in Morton order those of a square array whose extent is a power of two
abbrev pub slot_count : Order → List ℕ → ℕ
slot_count Row extents = length (indices extents)
slot_count Col extents = length (indices (reverse extents))
slot_count Morton extents = 2 ^ (length extents * digits_for extents)

-- the index of a row
abbrev pub index_at : List ℕ → ℕ → List ℕ
index_at extents row = slice_index_or (indices extents) row []

-- the slot of a row
abbrev pub slot_at : Order → List ℕ → ℕ → ℕ
slot_at order extents row = slot_of order extents (index_at extents row)

-- the row whose index has this slot, if there is one
unfoldable pub row_at : Order → List ℕ → ℕ → Option ℕ
row_at order extents slot = position (λ index. slot_of order extents index == slot) (indices extents)

-- Plans of mappings of bytes, from those of their inner mappings.
use Rattle.map_checks.proofs.Imports.{true, ◌≡◌, ℕ, ◌+◌, ◌-◌, ◌*◌, ◌/◌, ◌%◌, ◌^◌, ◌<◌, ◌⊎◌, get_or, List, [], ◌∷◌, map, length, All, refl, sym, ap, ◌∙◌, subst, sum, PathStep, length-map, sum-map, Fields, Owner, Bit, relabel, byte_cells, byteswap, bytesplit, widths_of, full_holds, IsTooBig, widths_whole, widths_narrow, widths_full, Cell, Hold, Term, Split, Byteswap, Bytesplit, byte_cells_of, byte_count, length-bytes, widths_of_bytes, HasWholeBytes, HasOnePiece, AreSwapped, AreJoined, order_of, orders_of, layout_of, not_full, most_slots, IsTooBigFor, cells_under, cells_beside, IsPlanOf, IsRuled, length-holds, Plan, or_right, arith, rules}
use Rattle.std.specs.List.{sum_by}
use Rattle.map_checks.proofs.JoinRuleLaws.{alone_ruled, join_ruled, join_orders}
use Rattle.map_checks.proofs.OrderLaws.{order_in}
use Rattle.map_checks.proofs.SwapRuleLaws.{whole_ruled, swap_ruled, swap_orders}

-- the names that bits get
abbrev swap_name : List ℕ → ℕ → ℕ → ℕ → Owner
swap_name ws slot cell bit = Bit slot cell (get_or ws cell 0 - 8 - 8 * (bit / 8) + bit % 8)

abbrev split_name : List ℕ → ℕ → ℕ → ℕ → Owner
split_name ws slot cell bit = Bit slot (get_or (byte_cells ws) cell (0, 0)).0 (8 * (get_or (byte_cells ws) cell (0, 0)).1 + bit)

-- blobs keep their lengths under new names
lengths_renamed : (name : ℕ → ℕ → ℕ → Owner) (layout : List (List Owner)) → map length (relabel name layout) ≡ map length layout
lengths_renamed name [] = refl
lengths_renamed name (blob ∷ blobs) = grind (arith, length-map, (lengths_renamed name blobs))

bits_renamed : (name : ℕ → ℕ → ℕ → Owner) (layout : List (List Owner)) → sum_by length (relabel name layout) ≡ sum_by length layout
bits_renamed name layout =
    sym (sum-map (length {A = Owner}) (relabel name layout))
    ∙ ap (λ (ns : List ℕ). sum ns) (lengths_renamed name layout)
    ∙ sum-map (length {A = Owner}) layout

renamed_big : (name : ℕ → ℕ → ℕ → Owner) (most : ℕ) (layout : List (List Owner)) → IsTooBig most layout → IsTooBig most (relabel name layout)
renamed_big name most layout big = subst (λ (n : ℕ). (2 ^ 24 < most) ⊎ (8 * 2 ^ 28 < n)) (sym (bits_renamed name layout)) big

renamed_small : (name : ℕ → ℕ → ℕ → Owner) (most : ℕ) (layout : List (List Owner)) → (IsTooBig most layout → ⊥) → IsTooBig most (relabel name layout) → ⊥
renamed_small name most layout fits big = fits (subst (λ (n : ℕ). (2 ^ 24 < most) ⊎ (8 * 2 ^ 28 < n)) (bits_renamed name layout) big)

-- as wide as their types
widths_held : (holds : List Hold) (cells : List Cell) → holds ≡ full_holds cells → map (λ (h : Hold). h.width) holds ≡ widths_of cells
widths_held holds cells full = ap (map (λ (h : Hold). h.width)) full ∙ widths_full cells

-- the bytes of cells in reverse order
module _ (inner : Term) (extents : List ℕ) (fields : Fields) (cells : List Cell) where
  pub over_swap : IsTooBigFor inner extents fields cells → IsTooBigFor (Byteswap inner) extents fields cells
  over_swap big = renamed_big (swap_name (widths_of cells)) (most_slots inner extents) (layout_of inner extents fields cells) big

  module _ (made : Plan) (h : IsPlanOf inner extents fields cells made) where
    pub swap_held : length made.holds ≡ length cells
    swap_held = ap (λ (hs : List Hold). length hs) h.held ∙ length-holds inner fields cells

    swap_widths : made.holds ≡ full_holds cells → IsRuled (layout_of inner extents fields cells) extents (widths_of cells) made.rules
    swap_widths full = grind (arith, widths_held)

    pub swap_bytes : made.holds ≡ full_holds cells → All HasWholeBytes made.rules
    swap_bytes full = grind (arith, whole_ruled, swap_widths, widths_whole, widths_narrow)

    pub swap_planned : (plan : Plan) → made.holds ≡ full_holds cells → plan.holds ≡ full_holds cells → plan.lengths ≡ made.lengths → AreSwapped made.rules plan.rules
        → IsPlanOf (Byteswap inner) extents fields cells plan
    swap_planned plan full held lengths rules =
        let layout : List (List Owner) = layout_of inner extents fields cells in record {
          held = held;
          sized =
              ap (map (λ (n : ℕ). 8 * n)) lengths ∙ h.sized
              ∙ sym (lengths_renamed (swap_name (widths_of cells)) layout);
          ruled =
              subst (λ (ws : List ℕ). IsRuled (byteswap (widths_of cells) layout) extents ws plan.rules) (sym (widths_full cells))
              (swap_ruled layout extents (widths_of cells) made.rules plan.rules (swap_widths full) (widths_whole cells) rules);
          fits = renamed_small (swap_name (widths_of cells)) (most_slots inner extents) layout h.fits;
        }

    pub swap_ordered : (plan : Plan) → map order_in made.rules ≡ orders_of inner fields cells → AreSwapped made.rules plan.rules
        → map order_in plan.rules ≡ orders_of (Byteswap inner) fields cells
    swap_ordered plan orders rules = swap_orders made.rules plan.rules rules ∙ orders

-- the bytes of cells as cells
module _ (inner : Term) (extents : List ℕ) (fields : Fields) (cells : List Cell) where
  pub over_join : IsTooBigFor inner extents fields (byte_cells_of cells) → IsTooBigFor (Bytesplit inner) extents fields cells
  over_join big = renamed_big (split_name (widths_of cells)) (most_slots inner extents) (layout_of inner extents fields (byte_cells_of cells)) big

  module _ (made : Plan) (h : IsPlanOf inner extents fields (byte_cells_of cells) made) where
    pub join_each : length made.rules ≡ byte_count cells
    join_each = grind (arith, length-map, length-holds, length-bytes)

    join_widths : made.holds ≡ full_holds (byte_cells_of cells)
        → IsRuled (layout_of inner extents fields (byte_cells_of cells)) extents (widths_of (byte_cells_of cells)) made.rules
    join_widths full = grind (arith, widths_held)

    pub join_alone : made.holds ≡ full_holds (byte_cells_of cells) → All HasOnePiece made.rules
    join_alone full =
        alone_ruled (layout_of inner extents fields (byte_cells_of cells)) extents (widths_of (byte_cells_of cells)) made.rules (join_widths full) (widths_of_bytes cells)

    module _ (plan : Plan) (full : made.holds ≡ full_holds (byte_cells_of cells)) (orders : map order_in made.rules ≡ orders_of inner fields (byte_cells_of cells))
        (join : AreJoined cells made.rules plan.rules) where
      pub join_planned : plan.holds ≡ full_holds cells → plan.lengths ≡ made.lengths → IsPlanOf (Bytesplit inner) extents fields cells plan
      join_planned held lengths =
          let layout : List (List Owner) = layout_of inner extents fields (byte_cells_of cells) in record {
            held = held;
            sized =
                ap (map (λ (n : ℕ). 8 * n)) lengths ∙ h.sized
                ∙ sym (lengths_renamed (split_name (widths_of cells)) layout);
            ruled =
                subst (λ (ws : List ℕ). IsRuled (bytesplit (widths_of cells) layout) extents ws plan.rules) (sym (widths_full cells))
                (join_ruled cells made.rules plan.rules layout extents (widths_of (byte_cells_of cells)) (join_widths full) (widths_of_bytes cells) join_each
                (order_of inner fields) orders join);
            fits = renamed_small (split_name (widths_of cells)) (most_slots inner extents) layout h.fits;
          }

      pub join_ordered : map order_in plan.rules ≡ orders_of (Bytesplit inner) fields cells
      join_ordered =
          join_orders cells made.rules plan.rules (layout_of inner extents fields (byte_cells_of cells)) extents (widths_of (byte_cells_of cells)) (join_widths full)
          (widths_of_bytes cells) join_each (order_of inner fields) orders join

module _ (path : List PathStep) (one two : Term) (fields : Fields) (cells : List Cell) where
  pub narrow_under : (under : List Cell) → under ≡ cells_under fields path cells → not_full one fields under ≡ true → not_full (Split path one two) fields cells ≡ true
  narrow_under under is e = grind arith

  pub narrow_beside : (beside : List Cell) → beside ≡ cells_beside fields path cells → not_full two fields beside ≡ true → not_full (Split path one two) fields cells ≡ true
  narrow_beside beside is e = grind (arith, or_right)

-- Tables that are copied leaf after leaf of a run of rows, and run after run.
use Rattle.layout_copy.proofs.Imports.{◌≡◌, ℕ, ◌+◌, ◌*◌, ◌≤◌, List, length, sym, ap, ◌∙◌, arith, indices, slot_count, with_rows, AreBefore, Table, IsTable, leaf_count_of, AreAlike, order_by}
use Rattle.layout_copy.proofs.Pieces.{all_below}

-- ---- tables that are alike

pub alike_after : (source old from now : Table) → AreAlike source old → from ≡ source → now ≡ with_rows old now.rows → AreAlike from now
alike_after source old from now alike read same = grind arith

pub same_rows : (source now : Table) → AreAlike source now → IsTable source → IsTable now → length now.rows ≡ length source.rows
same_rows source now alike is to = to.rows ∙ sym (is.rows ∙ ap (λ (e : List ℕ). length (indices e)) alike.1)

-- ---- the steps of a run

-- two steps more for each of its rows
pub leaf_steps : (before now new rows leaf each : ℕ) → now ≤ before + 2 * (rows * leaf) → new ≡ now + 2 * each → each ≤ rows → new ≤ before + 2 * (rows * (leaf + 1))
leaf_steps before now new rows leaf each so_far more few = grind arith

-- once all rows are before, the tables are one
pub all_before : (source old new : Table) (first : ℕ) → AreAlike source old → IsTable source → IsTable new → new ≡ with_rows old new.rows → length source.rows ≤ first
    → AreBefore (leaf_count_of old) first source.rows new.rows → new ≡ with_rows old source.rows
all_before source old new first alike is now same all copied =
    let rows : length source.rows ≡ length (indices old.extents) = is.rows ∙ ap (λ (e : List ℕ). length (indices e)) alike.1 in
    all_below source old new (slot_count (order_by old.mapping) old.extents) (sym alike.0, sym alike.1) is now same
    (record { each = λ row leaf inside leaf_in low. copied row leaf (omega (arith, inside, rows, all)) leaf_in }) (omega arith)

-- How an actor goes from one row to the next.
use Rattle.std.proofs.Common.{◌≡◌, ℕ, zero, suc, ◌+◌, ◌-◌, ◌<◌, ◌≤◌, List, [], ◌++◌, Option, Some, None, ap, ◌∙◌, append_assoc, arith}
use Rattle.actor_tasks.specs.Imports.{Place, Job, Micro, steps_of}
use Rattle.actor_tasks.specs.Places.{origin, byte_behind}
use Rattle.actor_tasks.specs.Tasks.{place_steps, left_in}
use Rattle.actor_tasks.specs.TasksLaws.{next_row}
use Rattle.actor_tasks.specs.Marks.{task_at, IsRowNext}

-- the micro-steps of a row's next byte are the next ones
pub row_found : (job : Job) (row left done : ℕ) (from : Place) (next : ℕ × Place) → 0 < left → IsRowNext job row done from (Some next)
    → left_in job row left done from ≡ place_steps row (task_at job next.0) next.1 ++ left_in job row left next.0 (byte_behind next.1)
row_found job row left done from next some found = grind (arith, append_assoc)

-- behind a row without a next byte come all micro-steps of the rows behind it
pub row_over : (job : Job) (row more done : ℕ) (from : Place) → IsRowNext job row done from None → left_in job row (suc more) done from ≡ left_in job (row + 1) more 0 origin
row_over job row zero done from none = ap (λ (steps : List Micro). steps ++ steps_of job (row + 1) 0) none
row_over job row (suc more) done from none = ap (λ (steps : List Micro). steps ++ steps_of job (row + 1) (suc more)) none ∙ next_row job row more from

-- the same of the rows up to an end, behind all that came before
pub rows_found : (job : Job) (row end done : ℕ) (from : Place) (before : List Micro) (result : Option (ℕ × Place)) (next : ℕ × Place) → row < end
    → before ≡ left_in job row (end - row) done from → IsRowNext job row done from result → result ≡ Some next
    → before ≡ place_steps row (task_at job next.0) next.1 ++ left_in job row (end - row) next.0 (byte_behind next.1)
rows_found job row end done from before result next low so_far found is = grind (arith, row_found)

pub rows_over : (job : Job) (row end done : ℕ) (from : Place) (before : List Micro) (result : Option (ℕ × Place)) → row < end → before ≡ left_in job row (end - row) done from
    → IsRowNext job row done from result → result ≡ None → before ≡ left_in job (row + 1) (end - (row + 1)) 0 origin
rows_over job row end done from before result low so_far none is = grind (arith, row_over)

pub rows_none : (job : Job) (row end done : ℕ) (from : Place) (before : List Micro) → end ≤ row → before ≡ left_in job row (end - row) done from → before ≡ []
rows_none job row end done from before high so_far = (let none : end - row ≡ 0 = omega arith in so_far ∙ ap (λ (n : ℕ). left_in job row n done from) none)

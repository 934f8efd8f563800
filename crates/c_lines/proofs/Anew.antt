-- A table that is laid out anew in a script that has nothing but its view.
use Rattle.c_lines.proofs.Imports.{◌≡◌, inr, ◌∙◌, ◌+◌, ℕ, nat_eq, true, List, [], Option, Some, None, Result, Ok, Err, refl, sym, ap, arith, pointwise, text_self, Fields, Term, Table, Tested, ◌>>=◌, made, with_rows, nameless, AreAlike, alike, goes_then, Gives, StepFault, Answer, Refusal, Narrow, answered, Gave, Refuses, alone, blob_bits, live_bits, laid_left, was_copied, refused_at, answer_of, RelaidAs, zeros_beside, Spot, ℤ, HasRows, all_left, left_at, row_told, text_of_leaf, quiet, in_words, source_after, target_after}
unfoldable use Rattle.worlds.specs.Prelude.{laid_anew, relayout}
use Rattle.worlds.specs.declared.fault.CommandFault.TheVariants as command
use Rattle.c_lines.proofs.Commanding.{refuses_by, refuses_step, says_step}

-- the bits of the views of a script that has one
nothing_more : (n : ℕ) → n ≡ 0 + n
nothing_more n = omega arith

pub alone_bits : (name : List ℕ) (table : Table) → blob_bits table ≡ live_bits (alone name table).views
alone_bits name table = nothing_more (blob_bits table)

-- a test, as an answer
pub gave_answered : {A B : Type 0} (fields : Fields) (view : A → B) (given : Result A StepFault) (outcome : Tested B) → Gives view given outcome → Gave fields view outcome (answered given)
gave_answered fields view (Ok x) outcome gives = gives
gave_answered fields view (Err fault) outcome gives = refuses_step fields outcome fault _ gives (says_step fields fault _ refl)

-- the command, by the zeros and their rows
in_turn : {A B C D E : Type 0} (first : Result A E) (next : A → Result B E) (last : B → Result C E) (end : C → Result D E) →
    (first >>= λ x. (next x >>= last) >>= end) ≡ ((first >>= next) >>= λ y. last y >>= end)
in_turn (Ok x) next last end = ends last end (next x)
  where
    ends : {B C D E : Type 0} (last : B → Result C E) (end : C → Result D E) (given : Result B E) → ((given >>= last) >>= end) ≡ (given >>= λ y. last y >>= end)
    ends last end (Ok y) = refl
    ends last end (Err fault) = refl
in_turn (Err fault) next last end = refl

pub laid_by : (name : List ℕ) (table : Table) (term : Term) →
    relayout (alone name table) name term ≡ (zeros_beside term table >>= λ zeros. with_rows in_words zeros table.rows >>= λ new. quiet (alone name new))
unfolding laid_anew relayout
laid_by name table term =
    let same : pointwise nat_eq name name ≡ true = text_self name in
    rw same (in_turn (nameless [] term) (λ whole. made (alone [] table).views table.mode table.fields table.extents whole) (λ zeros. with_rows in_words zeros table.rows) (λ new. quiet (alone name new)))

-- the rows of zeros, as the copy answers
taken_rows : (table zeros : Table) (cause : Option Spot) → AreAlike table zeros → refused_at (answer_of zeros) 0 table.rows ≡ cause → Ok tt ≡ was_copied table zeros →
    with_rows in_words zeros table.rows ≡ Ok (target_after (Ok tt) table zeros)
unfolding with_rows
taken_rows table zeros None are is done = rw is refl
taken_rows table zeros (Some spot) are is done =
    let not : Ok tt ≡ Err (Narrow spot.row spot.leaf) = rw (alike table zeros are, is) at done in
    absurd (cc)

pub relaid_done : (name : List ℕ) (term : Term) (old fresh new : Table) → zeros_beside term old ≡ Ok fresh → AreAlike old fresh → Ok tt ≡ was_copied old fresh → new ≡ laid_left (Ok tt) old fresh →
    relayout (alone name old) name term ≡ Ok (record { held = alone name new; text = [] })
relaid_done name term old fresh new made_is are done left =
    laid_by name old term ∙ goes_then (zeros_beside term old) (λ zeros. with_rows in_words zeros old.rows >>= λ table. quiet (alone name table)) fresh made_is
    ∙ ap (λ (given : Tested Table). given >>= λ table. quiet (alone name table)) (taken_rows old fresh (refused_at (answer_of fresh) 0 old.rows) are refl done)
    ∙ ap (λ (table : Table). quiet (alone name table)) (sym left)

-- a value that is not held
record IsNotHeld (table zeros : Table) (told : Refusal) : Type 0 where
  spot : Spot
  told_is : told ≡ Narrow spot.row spot.leaf
  refused : with_rows in_words zeros table.rows ≡ Err (command.Narrow spot.row (text_of_leaf zeros.fields spot.leaf))

not_held : (table zeros : Table) (told : Refusal) (cause : Option Spot) → AreAlike table zeros → refused_at (answer_of zeros) 0 table.rows ≡ cause → Err told ≡ was_copied table zeros → IsNotHeld table zeros told
unfolding with_rows
not_held table zeros told None are is refused =
    let not : Err told ≡ Ok tt = rw (alike table zeros are, is) at refused in
    absurd (cc)
not_held table zeros told (Some spot) are is refused =
    let same : Err told ≡ Err (Narrow spot.row spot.leaf) = rw (alike table zeros are, is) at refused in
    record { spot = spot; told_is = cc; refused = rw is refl }

pub relaid_not : (name : List ℕ) (term : Term) (old fresh new : Table) (told : Refusal) (answer : Answer (Option ℤ)) → answer ≡ Err told → zeros_beside term old ≡ Ok fresh → AreAlike old fresh → Err told ≡ was_copied old fresh →
    new ≡ laid_left (Err told) old fresh → RelaidAs name term old answer new
relaid_not name term old fresh new told answer answered_is made_is are refused left =
    let not = not_held old fresh told (refused_at (answer_of fresh) 0 old.rows) are refl refused in
    let narrow : told ≡ Narrow not.spot.row not.spot.leaf = not.told_is in
    let left_is : new ≡ source_after (Err (Narrow not.spot.row not.spot.leaf)) old = rw narrow at left in
    rw (answered_is, narrow) (
      inr (record {
        fault = command.Narrow not.spot.row (text_of_leaf fresh.fields not.spot.leaf);
        is = laid_by name old term ∙ goes_then (zeros_beside term old) (λ zeros. with_rows in_words zeros old.rows >>= λ table. quiet (alone name table)) fresh made_is
            ∙ ap (λ (given : Tested Table). given >>= λ table. quiet (alone name table)) not.refused;
        says = record { leaf = not.spot.leaf; text_is = ap (λ (fields : Fields). text_of_leaf fields not.spot.leaf) (sym are.0); is = refl };
      }),
      rw left_is refl,
    )

-- none is made
pub none_made : (name : List ℕ) (term : Term) (old : Table) (told : Refusal) (answer : Answer (Option ℤ)) → answer ≡ Err told → Refuses old.fields (zeros_beside term old) told → RelaidAs name term old answer old
none_made name term old told answer answered_is refuses = rw answered_is (
  refuses_by old.fields (zeros_beside term old) (relayout (alone name old) name term) told (λ fault is. laid_by name old term ∙ rw is refl) refuses,
  stays (row_told told),
)
  where
    stays : (at : Option ℕ) → HasRows old (left_at (all_left old) old at) old
    stays (Some row) = refl
    stays None = refl

-- What a work on a view answers is what the command on the view of a name answers.
use Rattle.session.proofs.Imports.{◌≡◌, ℕ, List, map, get_or, Option, Result, Ok, Err, refl, sym, ap, subst, ◌∙◌, slice_set, Table, Did, Fronted, text_of, Done, done_to, on_view, with_table, LeftOf, Left, ◌>>=◌, known, shows, World, Entry, view_of, IsAt, known_at, RecordEntry, ViewEntry, MappingEntry, StepFault, Answers, IsLeft, AreLeft, Stands, world_in, world_of, Session, Tested}
use Rattle.command_checks.specs.declared.fault.StepFault.TheVariants as step
use Rattle.session.proofs.Named.{table_changed}

-- the outcome of a command on the view of a name, by what it leaves of the table
abbrev onward : World → List ℕ → Tested (LeftOf Table) → Tested Left
onward world name outcome = outcome >>= (λ new. shows (with_table world name new.held) new.text)

on_known : (world : World) (name : List ℕ) (table : Table) (does : Table → Tested Done) → known name world.views ≡ Ok table → on_view world name does ≡ onward world name (done_to table (does table))
unfolding on_view
on_known world name table does is = rw is refl

text_onward : (world : World) (name : List ℕ) (outcome : Tested (LeftOf Table)) → text_of (onward world name outcome) ≡ text_of outcome
text_onward world name (Ok left) = refl
text_onward world name (Err fault) = refl

-- a work that is done, where the view stands in its place, or that stops
pub view_worked : {K : Type 0} (taken : K → Option (List ℕ)) (faults : K → ℕ) (old new : K) (records : List RecordEntry) (mappings : List MappingEntry) (items : List ViewEntry) (name : List ℕ) (place : ℕ) (entry changed : ViewEntry)
    (does : Table → Tested Done) (result : Result (Unit {0}) StepFault) → IsAt view_of name items place → entry ≡ get_or items place entry → changed.name ≡ entry.name →
    Answers (IsLeft changed.view) taken faults old new (done_to entry.view (does entry.view)) result →
    Answers (AreLeft records mappings (slice_set items place changed)) taken faults old new (on_view (world_in records mappings items) name does) result
view_worked taken faults old new records mappings items name place entry changed does (Ok done) at is same did =
    let world = world_in records mappings items in
    let left : List (Entry Table) → Left = λ views. record { held = record world { views = views }; text = did.left.text } in
    record {
      left = left (map view_of (slice_set items place changed));
      goes = on_known world name entry.view does (known_at view_of name items place entry at is) ∙ ap (onward world name) did.goes
          ∙ ap (λ (table : Table). Ok (record { held = with_table world name table; text = did.left.text })) (sym did.stands)
          ∙ ap (λ (views : List (Entry Table)). Ok (left views)) (sym (table_changed items name place entry changed at is same));
      stands = refl;
      wrote = did.wrote;
    }
view_worked taken faults old new records mappings items name place entry changed does (Err (step.Command refusal)) at is same refused =
    let world = world_in records mappings items in
    record { is = on_known world name entry.view does (known_at view_of name items place entry at is) ∙ ap (onward world name) refused.is; wrote = refused.wrote }
view_worked taken faults old new records mappings items name place entry changed does (Err step.Source) at is same none = absurd none
view_worked taken faults old new records mappings items name place entry changed does (Err step.Sink) at is same broke =
    let world = world_in records mappings items in
    record {
      left = record { held = with_table world name broke.left.held; text = broke.left.text };
      goes = on_known world name entry.view does (known_at view_of name items place entry at is) ∙ ap (onward world name) broke.goes;
      stopped = broke.stopped;
    }
view_worked taken faults old new records mappings items name place entry changed does (Err step.NoMemory) at is same fronted =
    let world = world_in records mappings items in
    let outcome = on_known world name entry.view does (known_at view_of name items place entry at is) in
    subst (Fronted taken faults old new) (sym (ap text_of outcome ∙ text_onward world name (done_to entry.view (does entry.view)))) fronted

-- a session in which the views are those that are left
pub session_left : {K : Type 0} (taken : K → Option (List ℕ)) (faults : K → ℕ) (old new : K) (records : List RecordEntry) (mappings : List MappingEntry) (left : List ViewEntry) (outcome : Tested Left) (next : Session) →
    world_of next ≡ world_in records mappings left → Did (AreLeft records mappings left) taken faults old new outcome tt → Did Stands taken faults old new outcome next
session_left taken faults old new records mappings left outcome next is did = record { left = did.left; goes = did.goes; stands = is ∙ did.stands; wrote = did.wrote }

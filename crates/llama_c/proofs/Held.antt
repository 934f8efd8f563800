-- What calls answer by what their handles held.
use Rattle.record_dim.specs.Std.{◌≡◌, ⊎_elim, inl, inr, ℕ, ℤ, pos, Bool, List, Option, Some, None, Ok, Err, map, refl, sym, ap, subst, ◌∙◌, map-id}
use Rattle.llama_c.proofs.Imports.{Sentence, Table, Answer, Tells, given_or, on_held, fault_of, Fault, NoView, NoMemory, IsCallDone, IsLineDone, IsLineTold, IsMade, IsPutInto}

-- an empty handle has nothing to put into a buffer, and nothing to change
pub none_put : (told : Table → Answer (List ℕ)) (held : Option Table) (code : ℤ) (buffer : List ℕ) (needed : ℕ) → None ≡ held → code ≡ pos 1
    → IsPutInto (on_held told held) code buffer buffer needed needed
none_put told held code buffer needed empty is =
    subst (λ (h : Option Table). IsPutInto (on_held told h) code buffer buffer needed needed) empty
    (record { answer = Err NoView; tells = inr (record { answered = refl; filled = refl; counted = refl }); code_is = is })

pub none_done : {A : Type 0} (told : Table → Answer A) (after : Table → Table) (held new : Option Table) (code : ℤ) (fault fault_new : Fault)
    → None ≡ held → new ≡ None → code ≡ pos 1 → fault_new ≡ fault_of NoView → IsCallDone told after held new code fault fault_new
none_done told after held new code fault fault_new empty left is named =
    subst (λ (h : Option Table). IsCallDone told after h new code fault fault_new) empty
    (record { answer = Err NoView; changes = (refl, left); code_is = is; fault_is = named })

-- a line on an empty handle
pub none_line : (is : Sentence → Bool) (line : List ℕ) (held new : Option Table) (code value : ℤ) (fault fault_new : Fault) → None ≡ held → new ≡ None → code ≡ pos 1 → fault_new ≡ fault_of NoView
    → IsLineDone is line held new code value value fault fault_new
none_line is_line line held new code value fault fault_new empty left is named =
    subst (λ (h : Option Table). IsLineDone is_line line h new code value value fault fault_new) empty
    (record { answer = Err NoView; does = (refl, left); code_is = is; value_is = refl; fault_is = named })

pub none_text : (line : List ℕ) (held new : Option Table) (code : ℤ) (buffer : List ℕ) (needed : ℕ) (fault fault_new : Fault) → None ≡ held → new ≡ None → code ≡ pos 1 → fault_new ≡ fault_of NoView
    → IsLineTold line held new code buffer buffer needed needed fault fault_new
none_text line held new code buffer needed fault fault_new empty left is named =
    subst (λ (h : Option Table). IsLineTold line h new code buffer buffer needed needed fault fault_new) empty
    (record { answer = Err NoView; tells = (refl, left, refl, refl); code_is = is; fault_is = named })

-- what is told of an answer that was told
tells_twice : (told made answer : Answer Table) → Tells (λ view. view) told made → Tells (λ view. view) made answer → Tells (λ view. view) told answer
tells_twice told made (Ok view) first second = subst (λ (a : Answer Table). Tells (λ view. view) told a) second first
tells_twice told made (Err refusal) first second =
    ⊎_elim (λ (starved : refusal ≡ NoMemory). inl starved) (λ (is : made ≡ Err refusal). subst (λ (a : Answer Table). Tells (λ view. view) told a) is first) second

-- a view that was made as it is told is put into a handle
pub made_told : (told made : Answer Table) (code given : ℤ) (old new : Option Table) (fault fault_new : Fault) → Tells (λ view. view) told made
    → given ≡ code → IsMade made code old new fault fault_new → IsMade told given old new fault fault_new
made_told told made code given old new fault fault_new is same put = record {
  answer = put.answer;
  tells = tells_twice told made put.answer is put.tells;
  code_is = same ∙ put.code_is;
  held = put.held;
  fault_is = put.fault_is;
}

-- the numbers of an array after a call on what a handle holds
pub numbers_given : (call : Table → Answer (List ℤ)) (old new : List ℤ) (seen table : Table) (held : Option Table) → map (λ n. n) new ≡ given_or (map (λ n. n) old) (call seen)
    → seen ≡ table → Some table ≡ held → new ≡ given_or old (on_held call held)
numbers_given call old new seen table held given same is =
    sym (map-id new) ∙ given ∙ ap (λ (xs : List ℤ). given_or xs (call seen)) (map-id old) ∙ ap (λ (t : Table). given_or old (call t)) same ∙ ap (λ (h : Option Table). given_or old (on_held call h)) is

-- The line of a run by its parts.
use Rattle.instrument.proofs.Imports.{◌≡◌, ℕ, List, [], ◌∷◌, ◌++◌, append_assoc, digits_text, Run, RunOwner, fields_line, owner_fields, run_line, arith}

-- what stands before the owner of a run
abbrev pub run_front : Run → List ℕ
run_front run = digits_text run.blob ++ (44 ∷ (digits_text run.bit ++ (44 ∷ (digits_text run.bits ++ (44 ∷ [])))))

owner_behind : (names : List (List ℕ)) (first : List ℕ) (owner : RunOwner) → fields_line (first ∷ owner_fields names owner) ≡ first ++ (44 ∷ fields_line (owner_fields names owner))
owner_behind names first owner = grind arith

fields_apart : (a b c rest : List ℕ) → (a ++ (44 ∷ (b ++ (44 ∷ (c ++ (44 ∷ [])))))) ++ rest ≡ a ++ (44 ∷ (b ++ (44 ∷ (c ++ (44 ∷ rest)))))
fields_apart a b c rest = simp append_assoc

pub run_parts : (names : List (List ℕ)) (run : Run) → run_front run ++ fields_line (owner_fields names run.owner) ≡ run_line names run
run_parts names run = grind (arith, fields_apart, owner_behind)

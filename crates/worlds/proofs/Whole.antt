-- The line of a fault.
use Rattle.worlds.proofs.Imports.{◌≡◌, ℕ, List, [], ◌∷◌, ◌++◌, append_assoc, codes, append-nil, digits_text, joined, fault_text, fault_words}
use Rattle.worlds.specs.declared.fault.CommandFault.{CommandFault}

-- what stands in front of the detail
abbrev pub front : ℕ → List ℕ → List ℕ
front line name = joined (codes "line " ∷ digits_text line ∷ codes ": " ∷ name ∷ [])

pub line_parts : (line : ℕ) (fault : CommandFault) (name detail : List ℕ) → name ++ detail ≡ fault_words fault →
    (front line name ++ detail) ++ codes "\n" ≡ fault_text line fault
unfolding fault_text
line_parts line fault name detail is = rw (← is) (simp (append_assoc, append-nil))

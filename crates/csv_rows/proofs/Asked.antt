-- Records that are asked for their fields, one field after another.
use Rattle.csv_rows.proofs.Imports.{ℕ, List, ◌∙◌, IsAsked}

pub asked_again : {S : Type 0} (stands : S → Type 0) (fields : S → List (List ℕ)) (left : S → List (List (List ℕ))) (a b c : S) → IsAsked stands fields left a b → IsAsked stands fields left b c → IsAsked stands fields left a c
asked_again stands fields left a b c first second = record { standing = second.standing; same = second.same ∙ first.same; behind = second.behind ∙ first.behind }

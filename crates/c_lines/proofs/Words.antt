-- The words of a fault in its line.
use Rattle.c_lines.proofs.Imports.{◌≡◌, ℕ, List, [], ◌++◌, ◌+◌, ◌-◌, ◌≤◌, length, take, drop, Some, Ok, Err, Refusal, inr, refl, subst, ◌∙◌, arith, with_bytes, fault_words, codes, length-append, take-append_seam, CommandFault, Answer, TellsPut, buffer_after, needed_after, put_told}
unfoldable use Rattle.layout_io.specs.Prelude.{digits_text}
unfoldable use Rattle.worlds.specs.Prelude.{fault_text}

-- the words, with the line's front and end
line_is : (fault : CommandFault) → fault_text 0 fault ≡ codes "line 0: " ++ (fault_words fault ++ codes "\n")
unfolding fault_text digits_text
line_is fault = refl

pub record IsLine (fault : CommandFault) (line : List ℕ) : Type 0 where
  pub long : 9 ≤ length line
  pub words : take (length line - 9) (drop 8 line) ≡ fault_words fault

words_within : (words : List ℕ) → take (length words + 9 - 9) (words ++ codes "\n") ≡ words
words_within words =
    let same : length words + 9 - 9 ≡ length words = omega arith in
    rw same (take-append_seam words (codes "\n"))

line_parts : (words : List ℕ) → (9 ≤ length (codes "line 0: " ++ (words ++ codes "\n"))) × (length (codes "line 0: " ++ (words ++ codes "\n")) ≡ length words + 9)
line_parts words = (let long : 9 ≤ length (codes "line 0: " ++ (words ++ codes "\n")) = omega (arith, length-append (codes "line 0: ") (words ++ codes "\n"), length-append words (codes "\n")) in long, omega (arith, length-append (codes "line 0: ") (words ++ codes "\n"), length-append words (codes "\n")))

-- what a sink took which had taken nothing
pub line_taken : (fault : CommandFault) (before line : List ℕ) → before ≡ [] → Some line ≡ with_bytes (Some before) (fault_text 0 fault) → IsLine fault line
line_taken fault before line none took =
    let whole : Some line ≡ Some (fault_text 0 fault) = rw none at took in
    let same : line ≡ fault_text 0 fault = cc in
    let is = same ∙ line_is fault in
    let parts = line_parts (fault_words fault) in
    rw is (record { long = parts.0; words = rw parts.1 (words_within (fault_words fault)) })

-- a text that was copied out
pub put_as : (text : List ℕ) (buffer : List ℕ) (needed : ℕ) (answer : Answer (Unit {0})) (buffer_new : List ℕ) (needed_new : ℕ) →
    answer ≡ put_told (Ok text) buffer → buffer_new ≡ buffer_after (Ok text) buffer → needed_new ≡ needed_after (Ok text) needed → TellsPut (Ok text) buffer needed answer buffer_new needed_new
put_as text buffer needed answer buffer_new needed_new told filled counted = inr (record { answered = told; filled = filled; counted = counted })

-- the same of what is told otherwise
pub put_told_as : (told other : Answer (List ℕ)) (buffer : List ℕ) (needed : ℕ) (answer : Answer (Unit {0})) (buffer_new : List ℕ) (needed_new : ℕ) →
    told ≡ other → TellsPut told buffer needed answer buffer_new needed_new → TellsPut other buffer needed answer buffer_new needed_new
put_told_as told other buffer needed answer buffer_new needed_new same put = subst (λ (t : Answer (List ℕ)). TellsPut t buffer needed answer buffer_new needed_new) same put

-- what no call answers
pub put_refused : (told : Answer (List ℕ)) (refusal : Refusal) (buffer : List ℕ) (needed : ℕ) (answer : Answer (Unit {0})) → Err refusal ≡ told → answer ≡ Err refusal →
    TellsPut told buffer needed answer buffer needed
put_refused told refusal buffer needed answer same is =
    put_told_as (Err refusal) told buffer needed answer buffer needed same (inr (record { answered = is; filled = refl; counted = refl }))

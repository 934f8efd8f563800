-- The header in front of bytes, by what a reader finds one after another.
use Rattle.blob_file.proofs.Imports.{◌≡◌, ℕ, ◌<◌, Bool, true, false, List, length, take, drop, Option, Some, None, ap, ◌∙◌, arith, option_map, if◌then◌else◌, Fields, New, Header, four_bytes, two_lines, same_bytes, bytes_to_line_end, line_told, fields_told, new_told, with_record, header_told, behind_first, behind_size, header_at}
use Rattle.blob_file.proofs.Heads.{front_is, header_with}

none_from : {A : Type 0} (o : Option A) → ((x : A) → o ≡ Some x → ⊥) → o ≡ None
none_from o none = grind arith

-- too few bytes
pub short_none : (bytes : List ℕ) → length bytes < 4 → header_at bytes ≡ None
short_none bytes few =
    none_from (header_at bytes) (λ found e.
    (let front = front_is bytes found.0 found.1 e in
    omega (arith, few, ap (length {A = ℕ}) front.is)))

none_if : {A : Type 0} (test : Bool) (o : Option A) → o ≡ None → (if test then o else None) ≡ None
none_if test o none = grind arith

no_new : (fields : Option Fields) → with_record fields None ≡ None
no_new fields = grind arith

module _ (bytes : List ℕ) where
  -- no line at all
  pub no_first : bytes_to_line_end (drop 4 bytes) ≡ None → header_at bytes ≡ None
  unfolding header_at
  no_first none = ap (behind_size (take 4 bytes)) none

  module _ (first rest : List ℕ) (is : bytes_to_line_end (drop 4 bytes) ≡ Some (first, rest)) where
    cut_first : header_at bytes ≡ behind_first (take 4 bytes) first (bytes_to_line_end rest)
    unfolding header_at
    cut_first = ap (behind_size (take 4 bytes)) is

    -- one line alone
    pub no_second : bytes_to_line_end rest ≡ None → header_at bytes ≡ None
    no_second none = cut_first ∙ ap (behind_first (take 4 bytes) first) none

    module _ (second body : List ℕ) (next : bytes_to_line_end rest ≡ Some (second, body)) where
      abbrev told : Option (Header × List ℕ)
      told = option_map {U = Header × List ℕ} (λ header. (header, body)) (header_told first second)

      abbrev sized : Bool
      sized = same_bytes (take 4 bytes) (four_bytes (length (two_lines first second)))

      cut_second : header_at bytes ≡ (if sized then told else None)
      cut_second = cut_first ∙ ap (behind_first (take 4 bytes) first) next

      untold : header_told first second ≡ None → header_at bytes ≡ None
      untold none = cut_second ∙ none_if sized told (ap (option_map {U = Header × List ℕ} (λ (header : Header). (header, body))) none)

      pub no_record : fields_told (line_told first) ≡ None → header_at bytes ≡ None
      no_record none = untold (ap (λ (fields : Option Fields). with_record fields (new_told (line_told second))) none)

      pub no_view : new_told (line_told second) ≡ None → header_at bytes ≡ None
      no_view none = untold (ap (with_record (fields_told (line_told first))) none ∙ no_new (fields_told (line_told first)))

      pub other_size : same_bytes (take 4 bytes) (four_bytes (length (two_lines first second))) ≡ false → header_at bytes ≡ None
      other_size lacks = cut_second ∙ ap (λ (test : Bool). if test then told else None) lacks

      pub header_found : (fields : Fields) (new : New) → same_bytes (take 4 bytes) (four_bytes (length (two_lines first second))) ≡ true → fields_told (line_told first) ≡ Some fields → new_told (line_told second) ≡ Some new →
          header_at bytes ≡ Some (header_with fields new, body)
      header_found fields new holds a b = grind (arith, cut_second, option_map)

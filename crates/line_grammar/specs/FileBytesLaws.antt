-- The bytes of the name of a file: they are ASCII, and padding them gives the fields back.
use Rattle.std.specs.Prelude.{◌≡◌, ℕ, suc, zero, ◌-◌, ◌<◌, true, ◌&&◌, nat_le, List, [], ◌∷◌, ◌++◌, length, get_or, drop, replicate}
use Rattle.record_dim.specs.Std.{arith, drop-replicate, length-append, length-drop, take-append_seam, nat_tests, list_all, IsUtf8, IsUtf8-from_ascii}
use Rattle.line_tokens.specs.Bytes.{is_text_byte}
use Rattle.record_dim.specs.Prelude.{both}
use Rattle.line_grammar.specs.Inner.FileNames.{is_file_name, StoresFileName}

text_low : (byte : ℕ) → is_text_byte byte ≡ true → byte < 128
text_low byte h = grind (arith, nat_tests)

all_low : (text : List ℕ) → list_all is_text_byte text ≡ true → (i : ℕ) → get_or text i 0 < 128
all_low [] h i = omega arith
all_low (byte ∷ text) h zero = text_low byte (both _ _ h).0
all_low (byte ∷ text) h (suc i) = all_low text (both _ _ h).1 i

-- the bytes of a name are a text
pub file_name_utf8 : (text : List ℕ) → is_file_name text ≡ true → IsUtf8 text
file_name_utf8 text h = IsUtf8-from_ascii text (all_low text (both _ _ h).1)

-- what `FileName::new` makes
pub stored : (text : List ℕ) → is_file_name text ≡ true → StoresFileName (text ++ drop (length text) (replicate 200 0)) (length text)
stored text h =
    let cut = take-append_seam text (drop (length text) (replicate 200 0)) in
    let form = both (nat_le 1 (length text) && nat_le (length text) 200) (list_all is_text_byte text) h in
    let sizes = both (nat_le 1 (length text)) (nat_le (length text) 200) form.0 in
    let some = sizes.0 in
    let small = sizes.1 in
    let pads : drop (length text) (replicate {A = ℕ} 200 0) ≡ replicate {A = ℕ} (200 - length text) 0 = drop-replicate (length text) 200 0 in
    grind (arith, nat_tests, length-append, length-drop)

-- The script and the dataset that are made of a number.
use Rattle.std.specs.Prelude.{ℕ, ◌*◌, ◌-◌, ◌%◌, ℤ, pos, neg_ℤ, List, [], ◌∷◌, ◌++◌, codes}
use Rattle.record_dim.specs.Std.{flat_map, range_with_len}
use Rattle.layout_io.specs.Prelude.{digits_text, decimal_text, File}

-- a line with its end
abbrev pub with_line_end : List ℕ → List ℕ
with_line_end line = line ++ codes "\n"

-- the lines of the script over a dataset of n rows
abbrev pub generated_lines : ℕ → List (List ℕ)
generated_lines n =
    codes "record P { pos { x:i32, y:i32 }, mass:u16, hot:bool, h:u8[2], id:u64 }"
    ∷ codes "load A : P [?] as count(aos(packed, row)) from \"gen.csv\""
    ∷ (codes "view B : P [" ++ digits_text n ++ codes "] as soa(multi, row)")
    ∷ (codes "view C : P [" ++ digits_text n ++ codes "] as aosoa(8, row)")
    ∷ (codes "view D : P [" ++ digits_text n ++ codes "] as bitaos(40, row)")
    ∷ (codes "view E : P [" ++ digits_text n ++ codes "] as split(pos, byteswap(soa(single, col)), bitsoa(34, row))")
    ∷ (codes "view F : P [" ++ digits_text n ++ codes "] as bytesplit(aos(aligned, morton))")
    ∷ codes "update A where hot set pos.x = pos.x * 2, mass = mass + 1"
    ∷ codes "copy A to B"
    ∷ codes "update B set pos.y = pos.y - pos.x"
    ∷ codes "copy B to C"
    ∷ codes "kernel C axpy(3, pos.x, pos.y) lanes 8"
    ∷ codes "copy C to D"
    ∷ codes "copy D to E"
    ∷ codes "copy E to F"
    ∷ codes "reduce F sum pos.x"
    ∷ codes "reduce F sum pos.y"
    ∷ codes "reduce F max id"
    ∷ codes "reduce E count where hot and h[0] > h[1]"
    ∷ codes "counts A"
    ∷ []

-- the script
unfoldable pub script_text : ℕ → List ℕ
script_text n = flat_map with_line_end (generated_lines n)

-- the values of a row: pos.x, pos.y, mass, hot, h[0], h[1] and id
abbrev pub generated_row : ℕ → List ℤ
generated_row r = pos r ∷ neg_ℤ (pos r) ∷ pos (r % 1000) ∷ pos (r % 2) ∷ pos (r % 256) ∷ pos (255 - r % 256) ∷ pos (65537 * r) ∷ []

-- the values with a comma between each two
abbrev pub values_with_commas : List ℤ → List ℕ
values_with_commas [] = []
values_with_commas (value ∷ []) = decimal_text value
values_with_commas (value ∷ values) = decimal_text value ++ codes "," ++ values_with_commas values

-- a row with the end of its line
abbrev pub row_text : ℕ → List ℕ
row_text r = with_line_end (values_with_commas (generated_row r))

-- the dataset of n rows
unfoldable pub dataset_text : ℕ → List ℕ
dataset_text n = codes "pos.x,pos.y,mass,hot,h[0],h[1],id\n" ++ flat_map row_text (range_with_len 0 n)

-- a dataset as the one file of a shelf
abbrev pub generated_files : List ℕ → List File
generated_files dataset = record { name = codes "gen.csv"; bytes = dataset } ∷ []

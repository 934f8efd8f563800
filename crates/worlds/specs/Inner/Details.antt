-- The texts of the details of faults.
use Rattle.std.specs.Prelude.{◌++◌}
use Rattle.worlds.specs.Imports.{ℕ, List, [], codes, digits_text, path_text_of}
use Rattle.worlds.specs.declared.detail.Detail.{Detail}
use Rattle.worlds.specs.declared.detail.Detail.TheVariants.{Nothing, Text, Count, Place, Byte, Path}

-- the number of a row, and a leaf
abbrev pub place_text : ℕ → List ℕ → List ℕ
place_text row leaf = digits_text row ++ codes " leaf " ++ leaf

-- the number of a blob, and that of a byte in it
abbrev pub byte_text : ℕ → ℕ → List ℕ
byte_text blob byte = digits_text blob ++ codes " byte " ++ digits_text byte

abbrev pub detail_text : Detail → List ℕ
detail_text Nothing = []
detail_text (Text text) = text.now
detail_text (Count count) = digits_text count
detail_text (Place row leaf) = place_text row leaf.now
detail_text (Byte blob byte) = byte_text blob byte
detail_text (Path path) = path_text_of path.now

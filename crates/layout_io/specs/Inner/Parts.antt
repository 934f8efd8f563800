-- The parts of a text.
use Rattle.std.specs.Prelude.{ℕ, List}
use Rattle.layout_io.specs.declared.text_buffer.Part.{Part}
use Rattle.layout_io.specs.declared.text_buffer.Part.TheVariants.{Text, Count, Number}
use Rattle.layout_io.specs.Decimal.{digits_text, decimal_text}

-- the bytes of a part
abbrev pub text_of_part : Part → List ℕ
text_of_part (Text bytes) = bytes.now
text_of_part (Count count) = digits_text count
text_of_part (Number value) = decimal_text value

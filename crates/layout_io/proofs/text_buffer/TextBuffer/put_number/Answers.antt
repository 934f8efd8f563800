use Rattle.layout_io.proofs.Imports.{arith, ◌+◌, ◌^◌, ◌<◌, ℤ, FitsSigned, w128, signed_decimal, to_z-of_z, mag, signed_decimal-decimal_text, common_steps}
use Rattle.layout_io.proofs.text_buffer.TextBuffer.put_number.Goals as goal

-- a number of 128 bits has fewer than 64 digits
small : (z : ℤ) → FitsSigned w128 z → mag z + 1 < 10 ^ 64
small z fits = omega (arith, fits.sfits)

pub returns : goal.returns
returns g c = grind (arith, common_steps, signed_decimal, to_z-of_z, signed_decimal-decimal_text)

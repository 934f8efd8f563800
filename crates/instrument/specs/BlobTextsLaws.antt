-- The bytes that bits say, and the bytes of the bits of bytes.
use Rattle.std.specs.Prelude.{◌≡◌, ℕ, ◌*◌, ◌/◌, ◌%◌, ◌^◌, ◌<◌, List, length, get_or}
use Rattle.record_dim.specs.Std.{arith, ext_get_or, get_or-map-range_with_len, length-map-range_with_len}
use Rattle.places.specs.Prelude.{number_same}
use Rattle.blobs.specs.Bits.{bit_of, bits_of, AreBytes}
use Rattle.blobs.specs.BytesLaws.{number_of_byte}
use Rattle.instrument.specs.BlobTexts.{byte_of_bits, bytes_of}

pub length-bytes_of : (bits : List ℕ) → length (bytes_of bits) ≡ length bits / 8
length-bytes_of bits = length-map-range_with_len (byte_of_bits bits) 0 (length bits / 8)

bits_long : (bytes : List ℕ) → length (bits_of bytes) ≡ 8 * length bytes
bits_long bytes = length-map-range_with_len (bit_of bytes) 0 (8 * length bytes)

-- as many bytes as before
pub bytes_long : (bytes : List ℕ) → length (bytes_of (bits_of bytes)) ≡ length bytes
bytes_long bytes = omega (arith, length-bytes_of (bits_of bytes), bits_long bytes)

-- and each is what it was
whole_byte : (byte : ℕ) → byte < 256 → byte / 2 ^ 0 % 2 ^ 8 ≡ byte
whole_byte byte small = omega (arith, small)

pub byte_is : (bytes : List ℕ) (at : ℕ) → at < length bytes → get_or bytes at 0 < 256 → get_or (bytes_of (bits_of bytes)) at 0 ≡ get_or bytes at 0
byte_is bytes at small fits = grind (arith, bits_long, get_or-map-range_with_len, number_same, get_or, number_of_byte, whole_byte)

pub bytes_of_bits : (bytes : List ℕ) → AreBytes bytes → bytes_of (bits_of bytes) ≡ bytes
bytes_of_bits bytes are =
    ext_get_or 0 (bytes_of (bits_of bytes)) bytes (bytes_long bytes) (λ at small. byte_is bytes at (omega (arith, small, bytes_long bytes)) (are at))

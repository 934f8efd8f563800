-- The bytes of a leaf in a row from a place on.
use Rattle.std.specs.Prelude.{ℕ, ◌≡◌, ◌+◌, ◌≤◌, ◌<◌, ◌⊎◌, ◌==◌, ◌&&◌, ◌||◌, not, nat_lt, Bool, List, [], ◌∷◌, filter, Option, Some, None}
use Rattle.actor_tasks.specs.Imports.{list_any, Owner, is_bit_of, Place, all_bytes, owners_of_byte}

-- whether a byte stands before another: by blob, then byte
abbrev pub is_before : Place → Place → Bool
is_before one two = nat_lt one.blob two.blob || (one.blob == two.blob && nat_lt one.byte two.byte)

-- a byte is this one or stands behind it
abbrev pub ComesFrom : Place → Place → Type 0
ComesFrom from place = (from.blob < place.blob) ⊎ ((from.blob ≡ place.blob) × (from.byte ≤ place.byte))

-- the first byte, and the one behind a byte
abbrev pub origin : Place
origin = record { blob = 0; byte = 0 }

abbrev pub byte_behind : Place → Place
byte_behind place = record { blob = place.blob; byte = place.byte + 1 }

-- whether a byte holds a bit of a leaf in a row
abbrev pub byte_holds_bit : List (List Owner) → ℕ → ℕ → Place → Bool
byte_holds_bit layout row leaf place = list_any (is_bit_of row leaf) (owners_of_byte layout place)

-- the bytes of a leaf in a row from a place on, by blob, then byte
abbrev pub places_from : List (List Owner) → ℕ → ℕ → Place → List Place
places_from layout row leaf from = filter (λ place. byte_holds_bit layout row leaf place && not (is_before place from)) (all_bytes layout)

-- the first of them, where there is one
abbrev pub IsHead : List (List Owner) → ℕ → ℕ → Place → Option Place → Type 0
IsHead layout row leaf from None = places_from layout row leaf from ≡ []
IsHead layout row leaf from (Some place) = places_from layout row leaf from ≡ place ∷ places_from layout row leaf (byte_behind place)

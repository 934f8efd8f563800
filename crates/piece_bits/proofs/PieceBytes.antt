-- One of the bytes that stand each by itself, as a piece.
use Rattle.piece_bits.proofs.Imports.{◌≡◌, ℕ, ◌+◌, ◌*◌, ◌/◌, ◌^◌, ◌<◌, List, length, get_or, take, All, sym, ap, ◌∙◌, subst, arith, length-map, get_or-map, Piece, PieceRule, byte_of, scattered_pieces, spots_of, IsWithin, IsNext, nowhere, next_piece}

module _ (rules : List PieceRule) (place i : ℕ) (rule : PieceRule) (in_rules : i < length rules) (is : rule ≡ get_or rules i rule) where
  in_bytes : i < length (scattered_pieces rules place)
  in_bytes = omega (arith, length-map rules (byte_of place))

  byte_is : get_or (scattered_pieces rules place) i nowhere ≡ byte_of place rule
  byte_is = get_or-map (byte_of place) rules i rule nowhere in_rules ∙ ap (byte_of place) (sym is)

  pub byte_next : (done : ℕ) → done ≡ length (spots_of (take i (scattered_pieces rules place))) → IsNext (scattered_pieces rules place) i done (byte_of place rule)
  byte_next done so_far = subst (λ (p : Piece). IsNext (scattered_pieces rules place) i done p) byte_is (next_piece (scattered_pieces rules place) i done nowhere in_bytes so_far)

  pub byte_within : (blobs : List (List ℕ)) → All (IsWithin blobs) (scattered_pieces rules place) → IsWithin blobs (byte_of place rule)
  byte_within blobs all = subst (λ (p : Piece). IsWithin blobs p) byte_is (all i nowhere in_bytes)

  pub byte_bound : All (λ piece. piece.bit < 2 ^ 64) (scattered_pieces rules place) → 8 * (rule.base / 8 + place) < 2 ^ 64
  byte_bound all = subst (λ (p : Piece). p.bit < 2 ^ 64) byte_is (all i nowhere in_bytes)

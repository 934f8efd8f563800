-- Whose the runs of a layout are.
use Rattle.view_commands.proofs.Imports.{◌≡◌, ◌+◌, ◌<◌, ℕ, suc, true, false, List, [], ◌∷◌, length, map, get_or, All, ap, subst, ◌∙◌, ⊎_elim, cases_Bool, All-nil, All-cons, All-tail, All-append, length-map, IsLaidOut, Owner, Pad, Bit, owner_at, Cell, Hold, LeafType, length-leaf_cells, leaf_cells, goes_on, joined_run, run_owner, runs_from, runs_of, IsOwnerBelow, arith}
use Rattle.record_dim.specs.Std.{flat_map}
use Rattle.places.specs.declared.piece.Run.{Run}

-- a run of one of so many leaves, or of none
abbrev pub IsRunBelow : ℕ → Run → Type 0
IsRunBelow leaves run = IsOwnerBelow leaves run.owner

below_joined : (leaves : ℕ) (run : Run) (runs : List Run) → IsRunBelow leaves run → All (IsRunBelow leaves) runs → All (IsRunBelow leaves) (joined_run run runs)
below_joined leaves run [] one all = All-cons (IsRunBelow leaves) run [] one all
below_joined leaves run (next ∷ runs) one all = ⊎_elim
    (λ (on : goes_on run.owner run.bits next.owner ≡ true).
    rw on (All-cons (IsRunBelow leaves) (record run { bits = run.bits + next.bits }) runs one (All-tail (IsRunBelow leaves) next runs all)))
    (λ (apart : goes_on run.owner run.bits next.owner ≡ false). rw apart (All-cons (IsRunBelow leaves) run (next ∷ runs) one all))
    (cases_Bool (goes_on run.owner run.bits next.owner))

-- owners whose bits are those of so many leaves
abbrev AreBelow : ℕ → List Owner → Type 0
AreBelow leaves owners = (p s c k : ℕ) → get_or owners p Pad ≡ Bit s c k → c < leaves

owner_below : (leaves : ℕ) (owner : Owner) → ((s c k : ℕ) → owner ≡ Bit s c k → c < leaves) → IsOwnerBelow leaves (run_owner owner)
owner_below leaves owner all = grind arith

below_from : (leaves blob bit : ℕ) (owners : List Owner) → AreBelow leaves owners → All (IsRunBelow leaves) (runs_from blob bit owners)
below_from leaves blob bit [] all = All-nil (IsRunBelow leaves)
below_from leaves blob bit (owner ∷ owners) all =
    below_joined leaves (record { blob = blob; bit = bit; bits = 1; owner = run_owner owner }) (runs_from blob (bit + 1) owners)
    (owner_below leaves owner (all 0)) (below_from leaves blob (bit + 1) owners (λ p. all (suc p)))

below_of : (leaves : ℕ) (layout : List (List Owner)) (blob : ℕ) → ((b p s c k : ℕ) → owner_at layout b p ≡ Bit s c k → c < leaves) → All (IsRunBelow leaves) (runs_of layout blob)
unfolding runs_of
below_of leaves layout blob all = below_from leaves blob 0 (get_or layout blob []) (all blob)

below_each : (leaves : ℕ) (layout : List (List Owner)) (blobs : List ℕ) → ((b p s c k : ℕ) → owner_at layout b p ≡ Bit s c k → c < leaves) → All (IsRunBelow leaves) (flat_map (runs_of layout) blobs)
below_each leaves layout [] all = All-nil (IsRunBelow leaves)
below_each leaves layout (blob ∷ blobs) all = All-append (IsRunBelow leaves) (runs_of layout blob) (flat_map (runs_of layout) blobs) (below_of leaves layout blob all) (below_each leaves layout blobs all)

-- the runs of blobs of a mapping that has so many leaves
pub runs_below : (layout whole : List (List Owner)) (slots : ℕ) (cells : List Cell) (holds : List Hold) (kinds : List LeafType) (blobs : List ℕ) → IsLaidOut layout slots (map (λ h. h.width) holds) → length holds ≡ length cells →
    cells ≡ leaf_cells kinds → layout ≡ whole → All (IsRunBelow (length kinds)) (flat_map (runs_of whole) blobs)
runs_below layout whole slots cells holds kinds blobs laid paired is same =
    let count : length (map (λ (h : Hold). h.width) holds) ≡ length kinds = length-map holds (λ (h : Hold). h.width) ∙ paired ∙ ap length is ∙ length-leaf_cells kinds in
    below_each (length kinds) whole blobs
    (λ b p s c k at. subst (λ n. c < n) count (laid.owned b p s c k (ap (λ (l : List (List Owner)). owner_at l b p) same ∙ at)).cell_in)

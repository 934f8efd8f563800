-- Blobs that are moved whole, one after another.
use Rattle.views.proofs.Imports.{◌≡◌, ℕ, ◌+◌, ◌<◌, ◌≤◌, List, [], length, map, take, get_or, sym, ap, ◌∙◌, arith, length-append, length-take, length-map, get_or-map, get_or-append_right, get_or-drop, get_or_default, length-drop, ext_get_or, sum_by_more, IsMoved, blocks, half, sum_by}

-- the blocks that blobs are
abbrev pub blocks_of : List (List ℕ) → ℕ
blocks_of blobs = sum_by (λ (blob : List ℕ). blocks (length blob)) blobs

-- the next one is old
pub half_next : {A : Type 0} (new old : List A) (n : ℕ) (d : A) → n < length new → get_or (half new old n) n d ≡ get_or old n d
half_next new old n d small = grind (arith, length-take, get_or-append_right, get_or-drop)

-- lists of the same lengths
pub same_count : (one two : List (List ℕ)) → map (length {A = ℕ}) one ≡ map (length {A = ℕ}) two → length one ≡ length two
same_count one two same = sym (length-map one (length {A = ℕ})) ∙ ap (λ (ns : List ℕ). length ns) same ∙ length-map two (length {A = ℕ})

pub same_length : (one two : List (List ℕ)) (k : ℕ) → map (length {A = ℕ}) one ≡ map (length {A = ℕ}) two → k < length one → k < length two → length (get_or one k []) ≡ length (get_or two k [])
same_length one two k same l m =
    sym (get_or-map (length {A = ℕ}) one k [] 0 l) ∙ ap (λ (ns : List ℕ). get_or ns k 0) same ∙ get_or-map (length {A = ℕ}) two k [] 0 m

-- all bytes moved are the others
pub all_moved : (old others new : List ℕ) (len : ℕ) → len ≡ length others → length old ≡ length others → IsMoved old 0 others 0 len new → new ≡ others
all_moved old others new len whole same h =
    ext_get_or 0 new others (h.size ∙ same)
    (λ k l.
    let none : 0 + k ≡ k = omega arith in
    let size : length new ≡ length old = h.size in
    ap (λ (n : ℕ). get_or new n 0) (sym none) ∙ h.inside k (omega arith) ∙ ap (λ (n : ℕ). get_or others n 0) none)

pub blocks_more : (blobs : List (List ℕ)) (k len : ℕ) → k < length blobs → len ≡ length (get_or blobs k []) → blocks_of (take k blobs) + blocks len ≡ blocks_of (take (k + 1) blobs)
blocks_more blobs k len inside is = grind (arith, sum_by_more)

pub half_length : (new old : List (List ℕ)) (n : ℕ) → n ≤ length new → length new ≡ length old → length (half new old n) ≡ length old
half_length new old n small same = grind (arith, length-take, length-drop, length-append)

-- the blob that is read, where those before it are new
pub still_old : (old others now : List (List ℕ)) (k : ℕ) (blob default : List ℕ) → now ≡ half others old k → length others ≡ length old → k < length others → blob ≡ get_or now k default → blob ≡ get_or old k []
still_old old others now k blob default is same inside read = grind (arith, half_length, get_or_default, half_next)

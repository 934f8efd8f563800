-- Gathering leaves: what one more field and one more element add.
use Rattle.record_dim.proofs.Imports.{◌≡◌, ℕ, ◌+◌, List, [], ◌∷◌, ◌++◌, map, codes, refl, sym, ap, ◌∙◌, append_assoc, arith, flat_map, range_with_len, map-append, map-id, append-nil, map-range_with_len_more, flat_map-append, LeafType, PathStep, Name, At, step_text, path_text_of, Tree, Single, Record, Array, Fields, End, Field, Leaf, under, leaves_of, leaves, kinds_of, texts_of, node_kinds, node_texts, record_kinds, record_texts}

-- a map over leaves seen from one step further up
map_under : {Y : Type 0} (f g : Leaf → Y) (step : PathStep) → ((leaf : Leaf) → f (under step leaf) ≡ g leaf) → (xs : List Leaf) → map f (map (under step) xs) ≡ map g xs
map_under f g step same [] = refl
map_under f g step same (x ∷ xs) = rw (same x, map_under f g step same xs) refl

-- what one more field adds
map_field : {Y : Type 0} (f g : Leaf → Y) (name : List ℕ) (held : Tree) (rest : Fields) → ((leaf : Leaf) → f (under (Name name) leaf) ≡ g leaf) →
    map f (leaves (Field name held rest)) ≡ map g (leaves_of held) ++ map f (leaves rest)
map_field f g name held rest same = grind (arith, map-append, Name, leaves, map_under)

-- the leaves of one element more
pub leaves-more : (number : ℕ) (element : Tree) → leaves_of (Array (number + 1) element) ≡ leaves_of (Array number element) ++ map (under (At number)) (leaves_of element)
leaves-more number element =
    let piece = λ (k : ℕ). map (under (At k)) (leaves_of element) in
    let more : range_with_len 0 (number + 1) ≡ range_with_len 0 number ++ number ∷ [] =
    sym (map-id (range_with_len 0 (number + 1))) ∙ map-range_with_len_more (λ (k : ℕ). k) 0 number number (omega arith) ∙ ap (λ ks. ks ++ number ∷ []) (map-id (range_with_len 0 number)) in
    ap (flat_map piece) more ∙ flat_map-append piece (range_with_len 0 number) (number ∷ []) ∙ ap (λ xs. flat_map piece (range_with_len 0 number) ++ xs) (append-nil (piece number))

-- behind a node's text the point stands before each name
texts_inside : (text : List ℕ) (fields : Fields) → map (λ (leaf : Leaf). text ++ flat_map step_text leaf.path) (leaves fields) ≡ map (λ (leaf : Leaf). (text ++ codes ".") ++ path_text_of leaf.path) (leaves fields)
texts_inside text End = refl
texts_inside text (Field name held rest) =
    let inner = λ (leaf : Leaf). text ++ ((codes "." ++ name) ++ flat_map step_text leaf.path) in
    map_field (λ leaf. text ++ flat_map step_text leaf.path) inner name held rest (λ leaf. refl)
    ∙ ap (λ xs. map inner (leaves_of held) ++ xs) (texts_inside text rest)
    ∙ sym (map_field (λ leaf. (text ++ codes ".") ++ path_text_of leaf.path) inner name held rest (λ leaf. append_assoc text (codes ".") (name ++ flat_map step_text leaf.path)))

pub node_kinds-single : (kind : LeafType) → node_kinds (Single kind) ≡ kind ∷ []
unfolding node_kinds
node_kinds-single kind = refl

pub node_texts-single : (text : List ℕ) (kind : LeafType) → node_texts text (Single kind) ≡ text ∷ []
unfolding node_texts
node_texts-single text kind = ap (λ t. t ∷ []) (append-nil text)

pub node_kinds-record : (fields : Fields) → node_kinds (Record fields) ≡ record_kinds fields
unfolding node_kinds record_kinds
node_kinds-record fields = refl

pub node_texts-record : (text : List ℕ) (fields : Fields) → node_texts text (Record fields) ≡ record_texts (text ++ codes ".") fields
unfolding node_texts record_texts
node_texts-record text fields = texts_inside text fields

pub record_kinds-end : record_kinds End ≡ []
unfolding record_kinds
record_kinds-end = refl

pub record_texts-end : (front : List ℕ) → record_texts front End ≡ []
unfolding record_texts
record_texts-end front = refl

pub record_kinds-field : (name : List ℕ) (held : Tree) (rest : Fields) → record_kinds (Field name held rest) ≡ node_kinds held ++ record_kinds rest
unfolding node_kinds record_kinds
record_kinds-field name held rest = map_field (λ leaf. leaf.kind) (λ leaf. leaf.kind) name held rest (λ leaf. refl)

pub record_texts-field : (front name : List ℕ) (held : Tree) (rest : Fields) → record_texts front (Field name held rest) ≡ node_texts (front ++ name) held ++ record_texts front rest
unfolding node_texts record_texts
record_texts-field front name held rest =
    map_field (λ leaf. front ++ path_text_of leaf.path) (λ leaf. (front ++ name) ++ flat_map step_text leaf.path) name held rest (λ leaf. sym (append_assoc front name (flat_map step_text leaf.path)))

pub node_kinds-none : (element : Tree) → node_kinds (Array 0 element) ≡ []
unfolding node_kinds
node_kinds-none element = refl

pub node_texts-none : (text : List ℕ) (element : Tree) → node_texts text (Array 0 element) ≡ []
unfolding node_texts
node_texts-none text element = refl

pub node_kinds-more : (number : ℕ) (element : Tree) → node_kinds (Array (number + 1) element) ≡ node_kinds (Array number element) ++ node_kinds element
unfolding node_kinds
node_kinds-more number element = grind (arith, leaves-more, map-append, Array, map_under)

pub node_texts-more : (text : List ℕ) (number : ℕ) (element : Tree) → node_texts text (Array (number + 1) element) ≡ node_texts text (Array number element) ++ node_texts (text ++ step_text (At number)) element
unfolding node_texts
node_texts-more text number element = grind (arith, flat_map, leaves-more, map-append, Array, map_under, append_assoc)

pub record_kinds-all : (fields : Fields) → record_kinds fields ≡ kinds_of fields
unfolding record_kinds
record_kinds-all fields = refl

pub record_texts-all : (fields : Fields) → record_texts [] fields ≡ texts_of fields
unfolding record_texts
record_texts-all fields = refl

pub ruleset gathered = (append-nil, append_assoc, node_kinds-single, node_texts-single, node_kinds-record, node_texts-record, record_kinds-end, record_texts-end, record_kinds-field, record_texts-field, node_kinds-none, node_texts-none, node_kinds-more, node_texts-more)

pub ruleset whole = (record_kinds-all, record_texts-all)

-- one more field is gathered
pub kinds-step : (all done more : List LeafType) (left : Fields) (name : List ℕ) (held : Tree) (rest : Fields) →
    left ≡ Field name held rest → more ≡ done ++ node_kinds held → done ++ record_kinds left ≡ all → more ++ record_kinds rest ≡ all
kinds-step all done more left name held rest l e h =
    rw e (append_assoc done (node_kinds held) (record_kinds rest) ∙ ap (λ xs. done ++ xs) (sym (record_kinds-field name held rest)) ∙ ap (λ fields. done ++ record_kinds fields) (sym l) ∙ h)

pub texts-step : (all done more : List (List ℕ)) (front : List ℕ) (left : Fields) (name : List ℕ) (held : Tree) (rest : Fields) →
    left ≡ Field name held rest → more ≡ done ++ node_texts (front ++ name) held → done ++ record_texts front left ≡ all → more ++ record_texts front rest ≡ all
texts-step all done more front left name held rest l e h =
    rw e (append_assoc done (node_texts (front ++ name) held) (record_texts front rest) ∙ ap (λ xs. done ++ xs) (sym (record_texts-field front name held rest)) ∙ ap (λ fields. done ++ record_texts front fields) (sym l) ∙ h)

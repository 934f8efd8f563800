-- Fields told by their tokens.
use Rattle.blob_file.proofs.Imports.{◌≡◌, ℕ, List, [], ◌∷◌, ◌++◌, refl, sym, ap, ◌∙◌, Bool, true, false, Some, append_assoc, OpenBrace, CloseBrace, OpenBracket, Colon, Comma, Token, Word, Sign, listed, leaf_types, type_word, dims_tokens, core_tokens, fields_tokens, later_tokens, Tree, Single, Record, Array, Fields, End, More, LeafType, arith}

-- a value by its word
pub same_word : {A : Type 0} (word_of : A → List ℕ) (values : List A) → ((value : A) → listed word_of values (word_of value) ≡ Some value) →
    (value other : A) → word_of value ≡ word_of other → value ≡ other
same_word word_of values back value other same = grind arith

type_back : (kind : LeafType) → listed type_word leaf_types (type_word kind) ≡ Some kind
type_back kind = grind arith

pub same_type : (kind other : LeafType) → type_word kind ≡ type_word other → kind ≡ other
same_type = same_word type_word leaf_types type_back

-- what an array holds in the end
abbrev base : Tree → Tree
base (Array count element) = base element
base (Single kind) = Single kind
base (Record fields) = Record fields

abbrev opens : List Token → Bool
opens (Sign OpenBracket ∷ tokens) = true
opens _ = false

-- the numbers of elements, which end before what is no open bracket
same_dims : (tree other : Tree) (rest more : List Token) → base tree ≡ base other → opens rest ≡ false → opens more ≡ false → dims_tokens tree ++ rest ≡ dims_tokens other ++ more → (tree ≡ other) × (rest ≡ more)
same_dims (Array count element) (Array number own) rest more held none shut same =
    let counts : count ≡ number = cc in
    let tails : dims_tokens element ++ rest ≡ dims_tokens own ++ more = cc in
    let inner = same_dims element own rest more held none shut tails in
    ((λ i. Array (counts i) (inner.0 i)), inner.1)
same_dims (Array count element) other rest more held none shut same = absurd (cc (ap opens same))
same_dims tree (Array count element) rest more held none shut same = absurd (cc (ap opens same))
same_dims tree other rest more held none shut same = (held, same)

-- a leaf, and a record, by what stands before them
single_core : (kind : LeafType) (other : Tree) (rest more : List Token) → Sign Colon ∷ Word (type_word kind) ∷ rest ≡ core_tokens other ++ more → (Single kind ≡ base other) × (rest ≡ more)
single_core kind (Single own) rest more same = grind (arith, same_type)
single_core kind (Record fields) rest more same = absurd cc
single_core kind (Array count element) rest more same = single_core kind element rest more same

abbrev AreToldFields : Fields → Type 0
AreToldFields fields = (others : Fields) (rest more : List Token) → later_tokens fields ++ Sign CloseBrace ∷ rest ≡ later_tokens others ++ Sign CloseBrace ∷ more → (fields ≡ others) × (rest ≡ more)

same_listing : (fields others : Fields) (rest more : List Token) → AreToldFields fields →
    fields_tokens fields ++ Sign CloseBrace ∷ rest ≡ fields_tokens others ++ Sign CloseBrace ∷ more → (fields ≡ others) × (rest ≡ more)
same_listing End End rest more told same = (refl, cc)
same_listing (More name held tail) (More other own after) rest more told same =
    told (More other own after) rest more (ap (λ (tokens : List Token). Sign Comma ∷ tokens) same)
same_listing fields others rest more told same = absurd cc

record_core : (fields : Fields) (other : Tree) (rest more : List Token) → AreToldFields fields →
    Sign OpenBrace ∷ ((fields_tokens fields ++ Sign CloseBrace ∷ []) ++ rest) ≡ core_tokens other ++ more → (Record fields ≡ base other) × (rest ≡ more)
record_core fields (Single kind) rest more told same = absurd cc
record_core fields (Array count element) rest more told same = record_core fields element rest more told same
record_core fields (Record others) rest more told same = grind (arith, fields_tokens, same_listing, append_assoc)

-- behind fields no bracket opens
behind_fields : (fields : Fields) (rest : List Token) → opens (later_tokens fields ++ Sign CloseBrace ∷ rest) ≡ false
behind_fields End rest = refl
behind_fields (More name held tail) rest = refl

cut_field : (name : List ℕ) (held : Tree) (tail : Fields) (rest : List Token) →
    later_tokens (More name held tail) ++ Sign CloseBrace ∷ rest
    ≡ Sign Comma ∷ Word name ∷ (core_tokens held ++ (dims_tokens held ++ (later_tokens tail ++ Sign CloseBrace ∷ rest)))
cut_field name held tail rest = simp append_assoc refl

mutual
  same_core : (tree other : Tree) (rest more : List Token) → core_tokens tree ++ rest ≡ core_tokens other ++ more → (base tree ≡ base other) × (rest ≡ more)
  same_core (Single kind) other rest more same = single_core kind other rest more same
  same_core (Record fields) other rest more same = record_core fields other rest more (λ others back behind e. same_fields fields others back behind e) same
  same_core (Array count element) other rest more same = same_core element other rest more same

  same_fields : (fields others : Fields) (rest more : List Token) → later_tokens fields ++ Sign CloseBrace ∷ rest ≡ later_tokens others ++ Sign CloseBrace ∷ more → (fields ≡ others) × (rest ≡ more)
  same_fields End End rest more same = (refl, cc)
  same_fields (More name held tail) (More other own after) rest more same =
      let front : List Token = later_tokens tail ++ Sign CloseBrace ∷ rest in
      let back : List Token = later_tokens after ++ Sign CloseBrace ∷ more in
      let lined : Sign Comma ∷ Word name ∷ (core_tokens held ++ (dims_tokens held ++ front)) ≡ Sign Comma ∷ Word other ∷ (core_tokens own ++ (dims_tokens own ++ back)) =
      sym (cut_field name held tail rest) ∙ same ∙ cut_field other own after more in
      let names : name ≡ other = cc in
      let behind : core_tokens held ++ (dims_tokens held ++ front) ≡ core_tokens own ++ (dims_tokens own ++ back) = cc in
      let core = same_core held own (dims_tokens held ++ front) (dims_tokens own ++ back) behind in
      let trees = same_dims held own front back core.0 (behind_fields tail rest) (behind_fields after more) core.1 in
      let tails = same_fields tail after rest more trees.1 in
      ((λ i. More (names i) (trees.0 i) (tails.0 i)), tails.1)
  same_fields fields others rest more same = absurd cc

-- records with the same tokens
pub same_records : (fields others : Fields) → core_tokens (Record fields) ++ [] ≡ core_tokens (Record others) ++ [] → fields ≡ others
same_records fields others same =
    let records : Record fields ≡ Record others = (same_core (Record fields) (Record others) [] [] same).0 in cc

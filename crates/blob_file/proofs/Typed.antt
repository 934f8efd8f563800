-- The tokens of a header are told by their text, where its names are names and its numbers have 64 bits.
use Rattle.blob_file.proofs.Imports.{◌≡◌, ℕ, ◌<◌, ◌^◌, List, [], ◌∷◌, ◌++◌, map, refl, sym, ◌∙◌, arith, Bool, true, codes, list_all, list_all-append, flat_map, ◌&&◌, and_parts, Decides-ltb, CloseBrace, CloseParen, Comma, Arrow, Token, Word, Sign, type_word, order_word, aos_word, soa_word, Each, each_append, count_token, with_commas, step_tokens, path_tokens, form_tokens, width_tokens, widths_tokens, bits_tokens, map_tokens, extent_tokens, flag_tokens, line_tokens, dims_tokens, core_tokens, fields_tokens, later_tokens, is_name, Tree, Single, Record, Array, Fields, End, More, LeafType, PathStep, ExtentWord, Fixed, Rows, Order, AosForm, SoaForm, FieldWidth, Term, Aos, Soa, Aosoa, BitAos, BitSoa, Split, Byteswap, Bytesplit, Change, Counted, Heated, Named, records_of, records_below, lengths_of, lengths_below, names_of, has_names, Header, is_nameless, is_count, is_step, is_width, is_typed, IsTyped, record_line, view_line}
use Rattle.record_dim.specs.declared.path.PathStep.TheVariants as step
use Rattle.blob_file.proofs.Tokens.{IsPlain}
use Rattle.blob_file.proofs.Maps.{commas}

-- ---- words and numbers

type_in : (kind : LeafType) → is_name (type_word kind) ≡ true
type_in kind = grind arith

order_in : (order : Order) → is_name (order_word order) ≡ true
order_in order = grind arith

aos_in : (form : AosForm) → is_name (aos_word form) ≡ true
aos_in form = grind arith

soa_in : (form : SoaForm) → is_name (soa_word form) ≡ true
soa_in form = grind arith

count_in : (number : ℕ) → is_count number ≡ true → number < 2 ^ 127
count_in number counts = let small : number < 2 ^ 64 = (Decides-ltb number (2 ^ 64)).0 counts in omega (arith, small)

-- ---- fields

dims_plain : (tree : Tree) → list_all is_count (lengths_of tree) ≡ true → Each IsPlain (dims_tokens tree)
dims_plain (Array count element) counts =
    let own = and_parts (is_count count) (list_all is_count (lengths_of element)) counts in
    (tt, (count_in count own.0, (tt, dims_plain element own.1)))
dims_plain (Single kind) counts = tt
dims_plain (Record fields) counts = tt

fields_plain : (fields : Fields) → Each IsPlain (later_tokens fields) → Each IsPlain (fields_tokens fields)
fields_plain End told = tt
fields_plain (More name held rest) told = told.1

mutual
  core_plain : (tree : Tree) → list_all has_names (records_of tree) ≡ true → list_all is_count (lengths_of tree) ≡ true → Each IsPlain (core_tokens tree)
  core_plain (Single kind) names counts = (tt, (type_in kind, tt))
  core_plain (Array count element) names counts = core_plain element names (and_parts (is_count count) (list_all is_count (lengths_of element)) counts).1
  core_plain (Record fields) names counts =
      let own = and_parts (has_names fields) (list_all has_names (records_below fields)) names in
      (tt, each_append IsPlain (fields_tokens fields) (Sign CloseBrace ∷ []) (fields_plain fields (later_plain fields own.0 own.1 counts)) (tt, tt))

  later_plain : (fields : Fields) → has_names fields ≡ true → list_all has_names (records_below fields) ≡ true → list_all is_count (lengths_below fields) ≡ true → Each IsPlain (later_tokens fields)
  later_plain End names records counts = tt
  later_plain (More name held rest) names records counts =
      let own = and_parts (is_name name) (list_all is_name (names_of rest)) names in
      let below = and_parts (list_all has_names (records_of held)) (list_all has_names (records_below rest)) (sym (list_all-append has_names (records_of held) (records_below rest)) ∙ records) in
      let lengths = and_parts (list_all is_count (lengths_of held)) (list_all is_count (lengths_below rest)) (sym (list_all-append is_count (lengths_of held) (lengths_below rest)) ∙ counts) in (
        tt,
        (
          own.0,
          each_append IsPlain (core_tokens held ++ dims_tokens held) (later_tokens rest)
              (each_append IsPlain (core_tokens held) (dims_tokens held) (core_plain held below.0 lengths.0) (dims_plain held lengths.0)) (later_plain rest own.1 below.1 lengths.1),
        ),
      )

pub record_plain : (header : Header) → IsTyped header → Each IsPlain (line_tokens (record_line header))
record_plain header typed = (refl, (refl, each_append IsPlain (core_tokens (Record header.fields)) [] (core_plain (Record header.fields) typed.names typed.lengths) tt))

-- ---- lists with commas

module _ {A : Type 0} (tokens : A → List Token) (test : A → Bool) (told : (value : A) → test value ≡ true → Each IsPlain (tokens value)) where
  commas_plain : (values : List A) → list_all test values ≡ true → Each IsPlain (commas (map tokens values))
  commas_plain [] all = tt
  commas_plain (value ∷ values) all =
      let own = and_parts (test value) (list_all test values) all in
      (tt, each_append IsPlain (tokens value) (commas (map tokens values)) (told value own.0) (commas_plain values own.1))

  list_plain : (values : List A) → list_all test values ≡ true → Each IsPlain (with_commas (map tokens values))
  list_plain [] all = tt
  list_plain (value ∷ values) all = (commas_plain (value ∷ values) all).1

-- ---- mappings

steps_plain : (steps : List PathStep) → list_all is_step steps ≡ true → Each IsPlain (flat_map step_tokens steps)
steps_plain [] all = tt
steps_plain (step.Name name ∷ steps) all = let own = and_parts (is_name name) (list_all is_step steps) all in (tt, (own.0, steps_plain steps own.1))
steps_plain (step.At number ∷ steps) all = let own = and_parts (is_count number) (list_all is_step steps) all in (tt, (count_in number own.0, (tt, steps_plain steps own.1)))

path_plain : (path : List PathStep) → list_all is_step path ≡ true → Each IsPlain (path_tokens path)
path_plain path all = grind (arith, steps_plain)

width_plain : (entry : FieldWidth) → is_width entry ≡ true → Each IsPlain (width_tokens entry)
width_plain entry all = grind (arith, and_parts, list_all, each_append, path_plain, count_in)

widths_plain : (entries : List FieldWidth) → list_all is_width entries ≡ true → Each IsPlain (widths_tokens entries)
widths_plain [] all = tt
widths_plain (entry ∷ entries) all =
    (tt, each_append IsPlain (with_commas (map width_tokens (entry ∷ entries))) (Sign CloseBrace ∷ []) (list_plain width_tokens is_width width_plain (entry ∷ entries) all) (tt, tt))

bits_plain : (width : ℕ) (entries : List FieldWidth) (order : Order) → (is_count width && list_all is_width entries) ≡ true → Each IsPlain (bits_tokens width entries order)
bits_plain width entries order all = grind (arith, and_parts, list_all, count_in, each_append, widths_plain)

form_plain : (word : List ℕ) (tokens : List Token) → is_name word ≡ true → Each IsPlain tokens → Each IsPlain (form_tokens word tokens)
form_plain word tokens named told = (named, (tt, each_append IsPlain tokens (Sign CloseParen ∷ []) told (tt, tt)))

map_plain : (term : Term) → is_typed term ≡ true → is_nameless term ≡ true → Each IsPlain (map_tokens term)
map_plain (Aos form order) typed plain = (refl, (tt, (aos_in form, (tt, (order_in order, (tt, tt))))))
map_plain (Soa form order) typed plain = (refl, (tt, (soa_in form, (tt, (order_in order, (tt, tt))))))
map_plain (Aosoa lanes order) typed plain = (refl, (tt, (count_in lanes typed, (tt, (order_in order, (tt, tt))))))
map_plain (BitAos width fields order) typed plain = form_plain (codes "bitaos") (bits_tokens width fields order) refl (bits_plain width fields order typed)
map_plain (BitSoa width fields order) typed plain = form_plain (codes "bitsoa") (bits_tokens width fields order) refl (bits_plain width fields order typed)
map_plain (Split path first rest) typed plain =
    let paths = and_parts (list_all is_step path) (is_typed first && is_typed rest) typed in
    let types = and_parts (is_typed first) (is_typed rest) paths.1 in
    let plains = and_parts (is_nameless first) (is_nameless rest) plain in
    grind (arith, form_plain, each_append, path_plain, (map_plain first types.0 plains.0), (map_plain rest types.1 plains.1))
map_plain (Byteswap inner) typed plain = form_plain (codes "byteswap") (map_tokens inner) refl (map_plain inner typed plain)
map_plain (Bytesplit inner) typed plain = form_plain (codes "bytesplit") (map_tokens inner) refl (map_plain inner typed plain)
map_plain (Change from to inner) typed plain =
    form_plain (codes "change") (Word (type_word from) ∷ Sign Arrow ∷ Word (type_word to) ∷ Sign Comma ∷ map_tokens inner) refl (type_in from, (tt, (type_in to, (tt, map_plain inner typed plain))))
map_plain (Counted inner) typed plain = form_plain (codes "count") (map_tokens inner) refl (map_plain inner typed plain)
map_plain (Heated granule inner) typed plain =
    let own = and_parts (is_count granule) (is_typed inner) typed in
    form_plain (codes "heat") (count_token granule ∷ Sign Comma ∷ map_tokens inner) refl (count_in granule own.0, (tt, map_plain inner own.1 plain))
map_plain (Named name) typed plain = absurd cc

-- ---- views

abbrev is_extent : ExtentWord → Bool
is_extent (Fixed count) = is_count count
is_extent Rows = true

extent_plain : (extent : ExtentWord) → is_extent extent ≡ true → Each IsPlain (extent_tokens extent)
extent_plain extent counts = grind (arith, count_in)

fixed_all : (extents : List ℕ) → list_all is_count extents ≡ true → list_all is_extent (map Fixed extents) ≡ true
fixed_all [] all = refl
fixed_all (extent ∷ extents) all =
    let own = and_parts (is_count extent) (list_all is_count extents) all in
    rw own.0 (fixed_all extents own.1)

flag_plain : (flag : Bool) → Each IsPlain (flag_tokens (codes "wrap") flag)
flag_plain flag = grind arith

pub view_plain : (header : Header) → IsTyped header → Each IsPlain (line_tokens (view_line header))
view_plain header typed = grind (arith, each_append, list_plain, extent_plain, fixed_all, flag_plain, map_plain)

-- What a run over lines of the language has in its world, line after line.
use Rattle.saved_runs.proofs.Imports.{◌≡◌, ℕ, Bool, true, false, List, [], ◌∷◌, codes, Option, Some, None, refl, subst, and_from, Tree, Fields, Record, MapTerm, Split, Byteswap, Bytesplit, Change, Counted, Heated, NamedTerm, Each, is_nameless, HasLine, World, Entry, same_name, found, added, replaced, removed, define, fit, mapping, nameless, ◌>>=◌, Left, known, refused_by, CommandFault, IfGoes, to, refused, bind, behind, known_found, IsSavable, Ok, Err, Tested, if◌then◌else◌, record_fault, arith}
use Rattle.line_grammar.specs.Sentences as line
use Rattle.saved_runs.proofs.Maps.{HasTokens}
use Rattle.saved_runs.proofs.Lines.{IsRecord}
use Rattle.saved_runs.proofs.Headers.{record_has_line}

-- ---- what is kept

-- a line is that of the record `R` of these fields, and they are fit for a table
pub record IsGoodRecord (fields : Fields) : Type 0 where
  pub line : HasLine (line.Define (codes "R") (Record fields))
  pub fit : record_fault (Record fields) ≡ None

-- the parts of a mapping expression are those of lines, and no name is among them
pub record IsGoodMapping (term : MapTerm) : Type 0 where
  pub has : HasTokens term
  pub nameless : is_nameless term ≡ true

-- what holds of each thing that has a name
module _ {A : Type 0} (P : A → Type 0) where
  abbrev pub AreAll : List (Entry A) → Type 0
  AreAll entries = Each (λ (entry : Entry A). P entry.held) entries

  pub of_found : (name : List ℕ) (entries : List (Entry A)) (held : A) → AreAll entries → found name entries ≡ Some held → P held
  of_found name [] held all is = absurd (cc is)
  of_found name (entry ∷ entries) held all is = of_test (same_name entry.name name) is (of_found name entries held all.1)
    where
      of_test : (test : Bool) → (if test then Some entry.held else found name entries) ≡ Some held → (found name entries ≡ Some held → P held) → P held
      of_test true is later = let same : entry.held ≡ held = cc in subst P same all.0
      of_test false is later = later is

  pub with_added : (name : List ℕ) (held : A) (entries : List (Entry A)) → P held → AreAll entries → AreAll (added name held entries)
  with_added name held [] p all = (p, tt)
  with_added name held (entry ∷ entries) p all = (all.0, with_added name held entries p all.1)

  pub with_replaced : (name : List ℕ) (held : A) (entries : List (Entry A)) → P held → AreAll entries → AreAll (replaced name held entries)
  with_replaced name held [] p all = tt
  with_replaced name held (entry ∷ entries) p all = of_test (same_name entry.name name) (with_replaced name held entries p all.1)
    where
      of_test : (test : Bool) → AreAll (replaced name held entries) → AreAll (if test then record { name = entry.name; held = held } ∷ entries else entry ∷ replaced name held entries)
      of_test true later = (p, all.1)
      of_test false later = (all.0, later)

  pub with_removed : (name : List ℕ) (entries : List (Entry A)) → AreAll entries → AreAll (removed name entries)
  with_removed name [] all = tt
  with_removed name (entry ∷ entries) all = of_test (same_name entry.name name) (with_removed name entries all.1)
    where
      of_test : (test : Bool) → AreAll (removed name entries) → AreAll (if test then entries else entry ∷ removed name entries)
      of_test true later = all.1
      of_test false later = (all.0, later)

pub record IsGoodWorld (world : World) : Type 0 where
  pub records : AreAll IsGoodRecord world.records
  pub mappings : AreAll IsGoodMapping world.mappings
  pub views : AreAll IsSavable world.views

-- a test that was passed
pub uncaused : {E : Type 0} (fault : E → CommandFault) (cause : Option E) (done : Unit {0}) → refused_by fault cause ≡ Ok done → cause ≡ None
uncaused fault cause done is = grind arith

-- ---- records and mappings

module _ (world : World) (good : IsGoodWorld world) where
  abbrev Keeps : Left → Type 0
  Keeps left = IsGoodWorld left.held

  record_fit : (tree : Tree) → IsRecord tree → IfGoes IsGoodRecord (fit tree)
  record_fit tree is = grind (arith, bind, to, record_has_line, uncaused)

  pub define_good : (name : List ℕ) (tree : Tree) → IsRecord tree → IfGoes Keeps (define world name tree)
  unfolding define
  define_good name tree is = grind (arith, bind, record_fit, to, with_added)

  wrapped : (wrap : MapTerm → MapTerm) (inner : MapTerm) → ((a : MapTerm) → IsGoodMapping a → IsGoodMapping (wrap a)) → IfGoes IsGoodMapping (nameless world.mappings inner)
      → IfGoes IsGoodMapping (nameless world.mappings inner >>= (λ a. Ok (wrap a)))
  wrapped wrap inner keeps one = behind IsGoodMapping IsGoodMapping (nameless world.mappings inner) _ one (λ a g. to _ (keeps a g))

  -- names replaced by what they stand for
  pub nameless_good : (term : MapTerm) → HasTokens term → IfGoes IsGoodMapping (nameless world.mappings term)
  nameless_good (Split path first rest) has =
      behind IsGoodMapping IsGoodMapping (nameless world.mappings first) _ (nameless_good first has.1.0) (λ a g.
      behind IsGoodMapping IsGoodMapping (nameless world.mappings rest) _ (nameless_good rest has.1.1) (λ b h.
      to _ (record { has = (has.0, (g.has, h.has)); nameless = and_from (is_nameless a) (is_nameless b) g.nameless h.nameless })))
  nameless_good (Byteswap inner) has = wrapped Byteswap inner (λ a g. record { has = g.has; nameless = g.nameless }) (nameless_good inner has)
  nameless_good (Bytesplit inner) has = wrapped Bytesplit inner (λ a g. record { has = g.has; nameless = g.nameless }) (nameless_good inner has)
  nameless_good (Change from target inner) has =
      wrapped (Change from target) inner (λ a g. record { has = (has.0, (has.1.0, g.has)); nameless = g.nameless }) (nameless_good inner has.1.1)
  nameless_good (Counted inner) has = wrapped Counted inner (λ a g. record { has = g.has; nameless = g.nameless }) (nameless_good inner has)
  nameless_good (Heated granule inner) has = wrapped (Heated granule) inner (λ a g. record { has = (has.0, g.has); nameless = g.nameless }) (nameless_good inner has.1)
  nameless_good (NamedTerm name) has = named_good (known name world.mappings) refl
    where
      named_good : (outcome : Tested MapTerm) → known name world.mappings ≡ outcome → IfGoes IsGoodMapping outcome
      named_good (Ok term) is = to term (of_found IsGoodMapping name world.mappings term good.mappings (known_found _ (found name world.mappings) term is))
      named_good (Err fault) is = refused fault
  nameless_good base has = to _ (record { has = has; nameless = refl })

  pub mapping_good : (name : List ℕ) (term : MapTerm) → HasTokens term → IfGoes Keeps (mapping world name term)
  unfolding mapping
  mapping_good name term has = grind (arith, bind, nameless_good, to, with_added)

-- Laws of tables that are alike: the tests of the model hold exactly where the records are one tree and the extents the same.
use Rattle.std.specs.Prelude.{◌≡◌, ℕ, true, false, nat_eq, refl, ◌&&◌, if◌then◌else◌}
use Rattle.command_checks.specs.Imports.{◌∙◌, sym, ap, ⊎_elim, pointwise, false≢true, cases_Bool, eqb-true, eq-eqb, both, same_text, text_self, Tree, Fields, Single, Record, Array, End, Field, kind_number, LeafType, Truth, U8, U16, U32, U64, I8, I16, I32, I64, AreAlike, Table, same_tree, same_fields, are_alike, arith}

-- a type by its number
abbrev kind_by : ℕ → LeafType
kind_by number =
    if nat_eq number 1 then U8
    else (if nat_eq number 2 then U16
    else (if nat_eq number 3 then U32
    else (if nat_eq number 4 then U64
    else (if nat_eq number 5 then I8
    else (if nat_eq number 6 then I16
    else (if nat_eq number 7 then I32
    else (if nat_eq number 8 then I64
    else Truth)))))))

kind_back : (kind : LeafType) → kind_by (kind_number kind) ≡ kind
kind_back kind = grind arith

same_kind : (kind other : LeafType) → nat_eq (kind_number kind) (kind_number other) ≡ true → kind ≡ other
same_kind kind other e = sym (kind_back kind) ∙ ap kind_by (eqb-true (kind_number kind) (kind_number other) e) ∙ kind_back other

mutual
  tree_is : (tree other : Tree) → same_tree tree other ≡ true → tree ≡ other
  tree_is (Single kind) (Single other) e = ap (λ k. Single k) (same_kind kind other e)
  tree_is (Record fields) (Record others) e = ap (λ f. Record f) (fields_are fields others e)
  tree_is (Array len element) (Array other_len other) e =
      let parts = both (nat_eq len other_len) (same_tree element other) e in
      let lens : len ≡ other_len = eqb-true len other_len parts.0 in
      let elements : element ≡ other = tree_is element other parts.1 in
      ap (λ n. Array n element) lens ∙ ap (λ t. Array other_len t) elements
  tree_is tree other e = absurd (false≢true e)

  fields_are : (fields others : Fields) → same_fields fields others ≡ true → fields ≡ others
  fields_are End End e = refl
  fields_are (Field name tree rest) (Field other_name other more) e =
      let parts = both (pointwise nat_eq name other_name) (same_tree tree other && same_fields rest more) e in
      let below = both (same_tree tree other) (same_fields rest more) parts.1 in
      let names : name ≡ other_name = same_text name other_name parts.0 in
      let trees : tree ≡ other = tree_is tree other below.0 in
      let rests : rest ≡ more = fields_are rest more below.1 in
      ap (λ n. Field n tree rest) names ∙ ap (λ t. Field other_name t rest) trees ∙ ap (λ f. Field other_name other f) rests
  fields_are fields others e = absurd (false≢true e)

mutual
  tree_self : (tree : Tree) → same_tree tree tree ≡ true
  tree_self (Single kind) = eq-eqb (kind_number kind) (kind_number kind) refl
  tree_self (Record fields) = fields_self fields
  tree_self (Array len element) = rw (eq-eqb len len refl) (tree_self element)

  fields_self : (fields : Fields) → same_fields fields fields ≡ true
  fields_self End = refl
  fields_self (Field name tree rest) = rw (text_self name, tree_self tree) (fields_self rest)

-- views of one record over the same extents are alike, and no others
pub alike : (source target : Table) → AreAlike source target → are_alike source target ≡ true
alike source target are = grind (arith, fields_self, text_self)

pub not_alike : (source target : Table) → (AreAlike source target → ⊥) → are_alike source target ≡ false
not_alike source target differ = ⊎_elim
    (λ (e : are_alike source target ≡ true). grind (arith, both, same_fields, nat_eq, fields_are, same_text))
    (λ (e : are_alike source target ≡ false). e)
    (cases_Bool (are_alike source target))

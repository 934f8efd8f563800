-- How the logic stores paths, trees and fields: a number for the case, then its parts.
use Rattle.std.specs.Prelude.{◌≡◌, ◌≢◌, ℕ, List, refl}
use Rattle.record_dim.specs.Std.{ap, arith, Coded, coded_ℕ, coded_list}
use base.Stored.{Gv, gnil, gnum, gcons}
use Rattle.record_dim.specs.contracts.leaf_type.LeafType as kind
use Rattle.record_dim.specs.contracts.path.PathStep as step
use Rattle.record_dim.specs.declared.path.PathStep.{PathStep}
use Rattle.record_dim.specs.Trees.{Tree, Single, Record, Array, Fields, End, Field}

-- the parts of what is stored in two parts
abbrev pub head : Gv → Gv
head gnil = gnil
head (gnum n) = gnil
head (gcons a b) = a

abbrev pub tail : Gv → Gv
tail gnil = gnil
tail (gnum n) = gnil
tail (gcons a b) = b

-- values of two cases are stored apart
pub apart : (m n : ℕ) {a b : Gv} → gcons (gnum m) a ≡ gcons (gnum n) b → m ≢ n → ⊥
apart m n p other = other (cc)

abbrev pub coded_path : Coded (List PathStep)
coded_path = coded_list step.the_row.coded

abbrev pub coded_text : Coded (List ℕ)
coded_text = coded_list coded_ℕ

abbrev mutual
  pub tree_code : Tree → Gv
  tree_code (Single a) = gcons (gnum 0) (kind.the_row.coded.code a)
  tree_code (Record fields) = gcons (gnum 1) (fields_code fields)
  tree_code (Array len element) = gcons (gnum 2) (gcons (coded_ℕ.code len) (tree_code element))

  pub fields_code : Fields → Gv
  fields_code End = gcons (gnum 0) gnil
  fields_code (Field name held rest) = gcons (gnum 1) (gcons (coded_text.code name) (gcons (tree_code held) (fields_code rest)))

mutual
  pub tree_inj : (x y : Tree) → tree_code x ≡ tree_code y → x ≡ y
  tree_inj (Single a0) (Single b0) p = λ i. Single (kind.the_row.coded.inj a0 b0 (ap tail p) i)
  tree_inj (Record a0) (Record b0) p = λ i. Record (fields_inj a0 b0 (ap tail p) i)
  tree_inj (Array a0 a1) (Array b0 b1) p = λ i. Array (coded_ℕ.inj a0 b0 (ap (λ g. head (tail g)) p) i) (tree_inj a1 b1 (ap (λ g. tail (tail g)) p) i)
  tree_inj x y p = absurd (apart _ _ p (omega arith))

  pub fields_inj : (x y : Fields) → fields_code x ≡ fields_code y → x ≡ y
  fields_inj End End p = refl
  fields_inj (Field a0 a1 a2) (Field b0 b1 b2) p =
      λ i. Field (coded_text.inj a0 b0 (ap (λ g. head (tail g)) p) i) (tree_inj a1 b1 (ap (λ g. head (tail (tail g))) p) i)
      (fields_inj a2 b2 (ap (λ g. tail (tail (tail g))) p) i)
  fields_inj x y p = absurd (apart _ _ p (omega arith))

abbrev pub coded_tree : Coded Tree
coded_tree = record { code = tree_code; inj = tree_inj }

abbrev pub coded_fields : Coded Fields
coded_fields = record { code = fields_code; inj = fields_inj }

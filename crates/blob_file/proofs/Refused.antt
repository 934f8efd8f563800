-- What is opened of bytes, by what a reader finds in them.
use Rattle.blob_file.proofs.Imports.{◌≡◌, ℕ, ◌*◌, true, false, List, length, take, drop, Result, Err, Some, None, refl, sym, ap, ◌∙◌, ◌⊎◌, IfErr, OnOk, sum_by, ne_eqb, Owner, Header, magic, owners_by, CanLie, can_lie, Saved, same_bytes, header_at, with_body, with_header, opened, IsRead, FileFault, arith}
use Rattle.blob_file.specs.declared.fault.FileFault.TheVariants as fault
use Rattle.blob_file.proofs.Lawful.{lies, cannot_lie}

pub no_magic : (bytes : List ℕ) → same_bytes (take 8 bytes) magic ≡ false → opened bytes ≡ Err fault.Magic
unfolding opened
no_magic bytes e = rw e refl

-- a header and what stands behind it
pub no_layout : (header : Header) (body : List ℕ) → (CanLie header → ⊥) → with_header (Some (header, body)) ≡ Err fault.Layout
no_layout header body none = let no : can_lie header ≡ false = cannot_lie header none in rw no refl

with_layout : (header : Header) (body : List ℕ) → CanLie header → with_header (Some (header, body)) ≡ with_body header body
with_layout header body can = let yes : can_lie header ≡ true = (lies header).1 can in rw yes refl

pub no_length : (header : Header) (body : List ℕ) → CanLie header → (8 * length body ≡ sum_by (length {A = Owner}) (owners_by header) → ⊥) → with_header (Some (header, body)) ≡ Err fault.Length
no_length header body can other = grind (arith, sum_by, ne_eqb, with_layout)

-- bytes that begin with the magic
module _ (bytes : List ℕ) (begins : same_bytes (take 8 bytes) magic ≡ true) where
  behind : opened bytes ≡ with_header (header_at (drop 8 bytes))
  unfolding opened
  behind = rw begins refl

  pub no_header : header_at (drop 8 bytes) ≡ None → opened bytes ≡ Err fault.Header
  no_header none = behind ∙ ap with_header none

  pub header_told : (header : Header) (body : List ℕ) → header_at (drop 8 bytes) ≡ Some (header, body) → opened bytes ≡ with_header (Some (header, body))
  header_told header body is = behind ∙ ap with_header is

  -- the same, of a header that is told in the other way
  pub body_told : (header : Header) {body : List ℕ} → header_at (drop 8 bytes) ≡ Some (header, body) → CanLie header → (made : Header) → made ≡ header → opened bytes ≡ with_body made body
  body_told header {body} is can made same = header_told header body is ∙ with_layout header body can ∙ ap (λ (h : Header). with_body h body) (sym same)

-- a refusal, passed on
pub refused_on : {P Q : Type 0} (why found : FileFault) → (P → Q) → (found ≡ fault.NoMemory) ⊎ ((found ≡ why) × P) → (found ≡ fault.NoMemory) ⊎ ((found ≡ why) × Q)
refused_on {P} {Q} why found gives cause = grind arith

-- a refusal, as a reader answers it
pub refused : {P : Type 0} (told : Result Saved FileFault) (why found : FileFault) → (P → told ≡ Err why) → (found ≡ fault.NoMemory) ⊎ ((found ≡ why) × P) → IsRead told (Err found)
refused {P} told why found gives cause = grind arith

pub starved : {A : Type 0} (told : Result Saved FileFault) (answer : Result A FileFault) → IfErr answer (λ found. found ≡ fault.NoMemory) → IfErr answer (λ found. IsRead told (Err found))
starved told answer none = grind arith

-- a fact beside an answer
pub on_ok : {A E : Type 0} {P : Type 0} (answer : Result A E) → P → OnOk answer P
on_ok answer p = grind arith

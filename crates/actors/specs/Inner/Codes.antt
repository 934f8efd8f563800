-- How the logic stores terms of bound expressions: a number for the case, then its parts.
use Rattle.std.specs.Prelude.{◌≡◌, ℕ}
use Rattle.actors.specs.Imports.{ap, arith, Coded, coded_ℕ, coded_ℤ, head, tail, apart, Term, Number, Entry, Index, Neg, Not, Binary}
use base.Stored.{Gv, gnum, gcons}
use Rattle.expr_lang.specs.contracts.expr.BinOp as op

abbrev pub term_code : Term ℕ → Gv
term_code (Number a0) = gcons (gnum 0) (coded_ℤ.code a0)
term_code (Entry a0) = gcons (gnum 1) (coded_ℕ.code a0)
term_code (Index a0) = gcons (gnum 2) (coded_ℕ.code a0)
term_code (Neg a0) = gcons (gnum 3) (term_code a0)
term_code (Not a0) = gcons (gnum 4) (term_code a0)
term_code (Binary a0 a1 a2) = gcons (gnum 5) (gcons (op.the_row.coded.code a0) (gcons (term_code a1) (term_code a2)))

pub term_inj : (x y : Term ℕ) → term_code x ≡ term_code y → x ≡ y
term_inj (Number a0) (Number b0) p = λ i. Number (coded_ℤ.inj a0 b0 (ap tail p) i)
term_inj (Entry a0) (Entry b0) p = λ i. Entry (coded_ℕ.inj a0 b0 (ap tail p) i)
term_inj (Index a0) (Index b0) p = λ i. Index (coded_ℕ.inj a0 b0 (ap tail p) i)
term_inj (Neg a0) (Neg b0) p = λ i. Neg (term_inj a0 b0 (ap tail p) i)
term_inj (Not a0) (Not b0) p = λ i. Not (term_inj a0 b0 (ap tail p) i)
term_inj (Binary a0 a1 a2) (Binary b0 b1 b2) p =
    λ i. Binary (op.the_row.coded.inj a0 b0 (ap (λ g. head (tail g)) p) i) (term_inj a1 b1 (ap (λ g. head (tail (tail g))) p) i)
    (term_inj a2 b2 (ap (λ g. tail (tail (tail g))) p) i)
term_inj x y p = absurd (apart _ _ p (omega arith))

abbrev pub coded_value : Coded (Term ℕ)
coded_value = record { code = term_code; inj = term_inj }

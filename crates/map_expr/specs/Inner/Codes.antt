-- How the logic stores terms: a number for the case, then its parts.
use Rattle.std.specs.Prelude.{◌≡◌, List}
use Rattle.record_dim.specs.Std.{ap, arith, Coded, coded_ℕ, coded_list}
use base.Stored.{Gv, gnum, gcons}
use Rattle.extents.specs.contracts.order.Order as order
use Rattle.places.specs.contracts.forms.AosForm as aos
use Rattle.places.specs.contracts.forms.SoaForm as soa
use Rattle.record_dim.specs.contracts.leaf_type.LeafType as kind
use Rattle.record_dim.specs.Prelude.{head, tail, apart, coded_path, coded_text}
use Rattle.map_expr.specs.contracts.widths.FieldWidth as entry
use Rattle.map_expr.specs.declared.widths.FieldWidth.{FieldWidth}
use Rattle.map_expr.specs.Terms.{Term, Aos, Soa, Aosoa, BitAos, BitSoa, Split, Byteswap, Bytesplit, Change, Count, Heat, Named}

abbrev pub coded_widths : Coded (List FieldWidth)
coded_widths = coded_list entry.the_row.coded

abbrev pub term_code : Term → Gv
term_code (Aos a0 a1) = gcons (gnum 0) (gcons (aos.the_row.coded.code a0) (order.the_row.coded.code a1))
term_code (Soa a0 a1) = gcons (gnum 1) (gcons (soa.the_row.coded.code a0) (order.the_row.coded.code a1))
term_code (Aosoa a0 a1) = gcons (gnum 2) (gcons (coded_ℕ.code a0) (order.the_row.coded.code a1))
term_code (BitAos a0 a1 a2) = gcons (gnum 3) (gcons (coded_ℕ.code a0) (gcons (coded_widths.code a1) (order.the_row.coded.code a2)))
term_code (BitSoa a0 a1 a2) = gcons (gnum 4) (gcons (coded_ℕ.code a0) (gcons (coded_widths.code a1) (order.the_row.coded.code a2)))
term_code (Split a0 a1 a2) = gcons (gnum 5) (gcons (coded_path.code a0) (gcons (term_code a1) (term_code a2)))
term_code (Byteswap a0) = gcons (gnum 6) (term_code a0)
term_code (Bytesplit a0) = gcons (gnum 7) (term_code a0)
term_code (Change a0 a1 a2) = gcons (gnum 8) (gcons (kind.the_row.coded.code a0) (gcons (kind.the_row.coded.code a1) (term_code a2)))
term_code (Count a0) = gcons (gnum 9) (term_code a0)
term_code (Heat a0 a1) = gcons (gnum 10) (gcons (coded_ℕ.code a0) (term_code a1))
term_code (Named a0) = gcons (gnum 11) (coded_text.code a0)

pub term_inj : (x y : Term) → term_code x ≡ term_code y → x ≡ y
term_inj (Aos a0 a1) (Aos b0 b1) p = λ i. Aos (aos.the_row.coded.inj a0 b0 (ap (λ g. head (tail g)) p) i) (order.the_row.coded.inj a1 b1 (ap (λ g. tail (tail g)) p) i)
term_inj (Soa a0 a1) (Soa b0 b1) p = λ i. Soa (soa.the_row.coded.inj a0 b0 (ap (λ g. head (tail g)) p) i) (order.the_row.coded.inj a1 b1 (ap (λ g. tail (tail g)) p) i)
term_inj (Aosoa a0 a1) (Aosoa b0 b1) p = λ i. Aosoa (coded_ℕ.inj a0 b0 (ap (λ g. head (tail g)) p) i) (order.the_row.coded.inj a1 b1 (ap (λ g. tail (tail g)) p) i)
term_inj (BitAos a0 a1 a2) (BitAos b0 b1 b2) p =
    λ i. BitAos (coded_ℕ.inj a0 b0 (ap (λ g. head (tail g)) p) i) (coded_widths.inj a1 b1 (ap (λ g. head (tail (tail g))) p) i)
    (order.the_row.coded.inj a2 b2 (ap (λ g. tail (tail (tail g))) p) i)
term_inj (BitSoa a0 a1 a2) (BitSoa b0 b1 b2) p =
    λ i. BitSoa (coded_ℕ.inj a0 b0 (ap (λ g. head (tail g)) p) i) (coded_widths.inj a1 b1 (ap (λ g. head (tail (tail g))) p) i)
    (order.the_row.coded.inj a2 b2 (ap (λ g. tail (tail (tail g))) p) i)
term_inj (Split a0 a1 a2) (Split b0 b1 b2) p =
    λ i. Split (coded_path.inj a0 b0 (ap (λ g. head (tail g)) p) i) (term_inj a1 b1 (ap (λ g. head (tail (tail g))) p) i)
    (term_inj a2 b2 (ap (λ g. tail (tail (tail g))) p) i)
term_inj (Byteswap a0) (Byteswap b0) p = λ i. Byteswap (term_inj a0 b0 (ap tail p) i)
term_inj (Bytesplit a0) (Bytesplit b0) p = λ i. Bytesplit (term_inj a0 b0 (ap tail p) i)
term_inj (Change a0 a1 a2) (Change b0 b1 b2) p =
    λ i. Change (kind.the_row.coded.inj a0 b0 (ap (λ g. head (tail g)) p) i) (kind.the_row.coded.inj a1 b1 (ap (λ g. head (tail (tail g))) p) i)
    (term_inj a2 b2 (ap (λ g. tail (tail (tail g))) p) i)
term_inj (Count a0) (Count b0) p = λ i. Count (term_inj a0 b0 (ap tail p) i)
term_inj (Heat a0 a1) (Heat b0 b1) p = λ i. Heat (coded_ℕ.inj a0 b0 (ap (λ g. head (tail g)) p) i) (term_inj a1 b1 (ap (λ g. tail (tail g)) p) i)
term_inj (Named a0) (Named b0) p = λ i. Named (coded_text.inj a0 b0 (ap tail p) i)
term_inj x y p = absurd (apart _ _ p (omega arith))

abbrev pub coded_term : Coded Term
coded_term = record { code = term_code; inj = term_inj }

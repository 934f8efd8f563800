-- The three ways of a copy of 1,000 rows of one leaf of four bytes: from which expression to which each goes, and its steps at most.
use Rattle.std.specs.Prelude.{ℕ}
use Rattle.extents.specs.declared.order.Order.TheVariants.{Row}
use Rattle.places.specs.declared.forms.AosForm.TheVariants.{Packed}
use Rattle.places.specs.declared.forms.SoaForm.TheVariants.{Multi}
use Rattle.map_expr.specs.Terms.{Term, Aos, Soa, Aosoa}
use Rattle.map_any.specs.declared.strategy.Strategy.{Strategy}
use Rattle.map_any.specs.declared.strategy.Strategy.TheVariants as way

abbrev pub from_of : Strategy → Term
from_of way.Runs = Soa Multi Row
from_of way.Blobs = Aos Packed Row
from_of way.Fields = Aos Packed Row

abbrev pub to_of : Strategy → Term
to_of way.Runs = Aosoa 8 Row
to_of way.Blobs = Aos Packed Row
to_of way.Fields = Soa Multi Row

-- 125 pieces of 32 bytes, one blob of 4,000 bytes in blocks of 64, a read and a write in each row
abbrev pub most_steps : Strategy → ℕ
most_steps way.Runs = 125
most_steps way.Blobs = 63
most_steps way.Fields = 2000

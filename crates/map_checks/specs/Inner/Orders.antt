-- Being built, as the fact of a field.
use Rattle.map_checks.specs.Imports.{×_prop, Term, Aos, Soa, Aosoa, BitAos, BitSoa, Split, Byteswap, Bytesplit, Change, Count, Heat, Named}
use Rattle.map_checks.specs.Mappings.{IsBuiltTerm}

pub IsBuiltTerm-prop : (term : Term) → IsProp (IsBuiltTerm term)
IsBuiltTerm-prop (Aos form order) = hlevel
IsBuiltTerm-prop (Soa form order) = hlevel
IsBuiltTerm-prop (Aosoa lanes order) = hlevel
IsBuiltTerm-prop (BitAos width entries order) = hlevel
IsBuiltTerm-prop (BitSoa width entries order) = hlevel
IsBuiltTerm-prop (Split path first rest) = ×_prop (IsBuiltTerm-prop first) (IsBuiltTerm-prop rest)
IsBuiltTerm-prop (Byteswap inner) = IsBuiltTerm-prop inner
IsBuiltTerm-prop (Bytesplit inner) = IsBuiltTerm-prop inner
IsBuiltTerm-prop (Change from to inner) = IsBuiltTerm-prop inner
IsBuiltTerm-prop (Count inner) = IsBuiltTerm-prop inner
IsBuiltTerm-prop (Heat granule inner) = IsBuiltTerm-prop inner
IsBuiltTerm-prop (Named name) = hlevel

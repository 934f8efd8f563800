-- In which order the rows of each leaf lie.
use Rattle.std.specs.Prelude.{ℕ, List, map, if◌then◌else◌}
use Rattle.map_checks.specs.Imports.{Fields, is_under, Order, Row, Cell, Term, Aos, Soa, Aosoa, BitAos, BitSoa, Split, Byteswap, Bytesplit, Change, Count, Heat, Named}

-- the order of the base mapping to which the cells of a leaf go
abbrev pub order_of : Term → Fields → ℕ → Order
order_of (Aos form order) fields leaf = order
order_of (Soa form order) fields leaf = order
order_of (Aosoa lanes order) fields leaf = order
order_of (BitAos width entries order) fields leaf = order
order_of (BitSoa width entries order) fields leaf = order
order_of (Split path first rest) fields leaf = if is_under fields path leaf then order_of first fields leaf else order_of rest fields leaf
order_of (Byteswap inner) fields leaf = order_of inner fields leaf
order_of (Bytesplit inner) fields leaf = order_of inner fields leaf
order_of (Change from to inner) fields leaf = order_of inner fields leaf
order_of (Count inner) fields leaf = order_of inner fields leaf
order_of (Heat granule inner) fields leaf = order_of inner fields leaf
order_of (Named name) fields leaf = Row

-- that of each cell
abbrev pub orders_of : Term → Fields → List Cell → List Order
orders_of term fields cells = map (λ cell. order_of term fields cell.leaf) cells

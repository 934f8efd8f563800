-- Which expressions can be mappings, whatever their cells are.
use Rattle.std.specs.Prelude.{ℕ, ◌^◌, Bool, true, false, not, ◌&&◌, ◌||◌, nat_eq, nat_le, nat_lt, if◌then◌else◌, ⊤, List, Option, Some, None, Result, Ok, Err}
use Rattle.record_dim.specs.Std.{list_all, list_any, range_with_len, option_or}
use Rattle.map_expr.specs.declared.check.BadMapping.{BadMapping}
use Rattle.map_expr.specs.declared.widths.FieldWidth.{FieldWidth}
use Rattle.map_expr.specs.declared.check.BadMapping.TheVariants.{TooDeep, Counter, Lanes, Width, Granule}
use Rattle.map_expr.specs.Terms.{Term, Aosoa, BitAos, BitSoa, Split, Byteswap, Bytesplit, Change, Count, Heat, Named, depth_of}

-- no name stands in it
abbrev pub IsNameless : Term → Type 0
IsNameless (Split path first rest) = IsNameless first × IsNameless rest
IsNameless (Byteswap inner) = IsNameless inner
IsNameless (Bytesplit inner) = IsNameless inner
IsNameless (Change from to inner) = IsNameless inner
IsNameless (Count inner) = IsNameless inner
IsNameless (Heat granule inner) = IsNameless inner
IsNameless (Named name) = ⊥
IsNameless _ = ⊤

-- some counter stands in it
abbrev pub has_counter : Term → Bool
has_counter (Count inner) = true
has_counter (Heat granule inner) = true
has_counter (Split path first rest) = has_counter first || has_counter rest
has_counter (Byteswap inner) = has_counter inner
has_counter (Bytesplit inner) = has_counter inner
has_counter (Change from to inner) = has_counter inner
has_counter _ = false

-- counters stand at the top alone, each kind at most once; `count` and `heat` say which kinds may still come
abbrev pub counts_once : Bool → Bool → Term → Bool
counts_once count heat (Count inner) = count && counts_once false heat inner
counts_once count heat (Heat granule inner) = heat && counts_once count false inner
counts_once count heat term = not (has_counter term)

-- a width of a cell
abbrev pub is_width : ℕ → Bool
is_width width = nat_le 1 width && nat_le width 64

-- each entry has one
abbrev pub are_widths : List FieldWidth → Bool
are_widths fields = list_all (λ entry. is_width entry.width) fields

-- a number of lanes, some of the widths of bits, and a granule that is out of its range
abbrev pub bad_lanes : ℕ → Option BadMapping
bad_lanes lanes = if nat_le 1 lanes && nat_le lanes 64 then None else Some Lanes

abbrev pub bad_widths : ℕ → List FieldWidth → Option BadMapping
bad_widths width fields = if is_width width && are_widths fields then None else Some Width

abbrev pub bad_granule : ℕ → Option BadMapping
bad_granule granule = if list_any (λ k. nat_eq granule (2 ^ k)) (range_with_len 0 13) then None else Some Granule

-- the first number that is out of its range, in the order of the text
abbrev pub bad_number : Term → Option BadMapping
bad_number (Aosoa lanes order) = bad_lanes lanes
bad_number (BitAos width fields order) = bad_widths width fields
bad_number (BitSoa width fields order) = bad_widths width fields
bad_number (Split path first rest) = option_or (bad_number first) (bad_number rest)
bad_number (Byteswap inner) = bad_number inner
bad_number (Bytesplit inner) = bad_number inner
bad_number (Change from to inner) = bad_number inner
bad_number (Count inner) = bad_number inner
bad_number (Heat granule inner) = option_or (bad_granule granule) (bad_number inner)
bad_number _ = None

-- a fault as an answer
abbrev pub answered : Option BadMapping → Result Unit BadMapping
answered None = Ok tt
answered (Some bad) = Err bad

-- the first of the three causes that hold of the expression alone
abbrev pub checked : Term → Result Unit BadMapping
checked term =
    if nat_lt 8 (depth_of term) then Err TooDeep
    else (if not (counts_once true true term) then Err Counter else answered (bad_number term))

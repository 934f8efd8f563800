-- Ways of storing leaves, each tried with the values of all rows.
use Rattle.std.specs.Prelude.{ℕ, ◌≡◌, ◌<◌, ◌==◌, ◌&&◌, ◌||◌, Bool, true, not, ℤ, List, length, if◌then◌else◌}
use Rattle.advisor.specs.Imports.{list_any, list_all, flat_map, range_with_len, Fields, leaves, kinds_of, Hold, hold_at, kind_at, StoreMode, in_leaf, raised, Access, row_accesses}
use Rattle.advisor.specs.Inner.SideCosts.{IsHold}
use Rattle.advisor.specs.Suits.{stays}
use Rattle.advisor.specs.declared.trials.Trial.{Trial}

-- a way of storing a leaf of a record, which is of this type
pub record IsTrial (fields : Fields) (trial : Trial) : Type 0 where
  pub inside : trial.leaf < length (leaves fields)
  pub kind_is : trial.kind ≡ kind_at (kinds_of fields) trial.leaf
  pub hold : IsHold trial.hold

-- no value was tried that does not stay
abbrev pub IsFresh : Trial → Type 0
IsFresh trial = trial.stays ≡ true

-- two ways of storing are the same
abbrev pub same_hold : Hold → Hold → Bool
same_hold hold other = (if hold.signed then other.signed else not other.signed) && (hold.width == other.width)

-- a trial is of this way of storing a leaf, and one of some trials is
abbrev pub is_for : ℕ → Hold → Trial → Bool
is_for leaf hold trial = (trial.leaf == leaf) && same_hold trial.hold hold

abbrev pub has_trial : List Trial → ℕ → Hold → Bool
has_trial trials leaf hold = list_any (is_for leaf hold) trials

-- there is a trial of the way in which each of the first so many leaves is stored
abbrev pub HasTrials : List Trial → List Hold → ℕ → Type 0
HasTrials trials holds count = (leaf : ℕ) → leaf < count → has_trial trials leaf (hold_at holds leaf) ≡ true

-- the value in a row stays
abbrev pub takes : StoreMode → Trial → List ℤ → Bool
takes mode trial row = stays mode trial.kind trial.hold (in_leaf trial.leaf row)

-- a trial after some rows
abbrev pub tried_all : StoreMode → List (List ℤ) → Trial → Trial
tried_all mode rows trial = record trial { stays = trial.stays && list_all (takes mode trial) rows }

-- a value of its leaf stays, which is given by its low bits, and so does each of some
abbrev pub low_stays : StoreMode → Trial → ℤ → Bool
low_stays mode trial low = stays mode trial.kind trial.hold (raised trial.kind low)

abbrev pub all_lows_stay : StoreMode → Trial → List ℤ → Bool
all_lows_stay mode trial lows = list_all (low_stays mode trial) lows

-- a trial after values of a leaf
abbrev pub tried_leaf : StoreMode → ℕ → List ℤ → Trial → Trial
tried_leaf mode leaf lows trial = record trial { stays = trial.stays && (not (trial.leaf == leaf) || all_lows_stay mode trial lows) }

-- one access of each leaf of each of so many rows from one on
abbrev pub rows_accesses : (ℕ → ℕ → Access) → ℕ → ℕ → ℕ → List Access
rows_accesses access leaves first count = flat_map (row_accesses access leaves) (range_with_len first count)

-- no way in which leaves are stored failed
abbrev pub has_not_failed : List Hold → Trial → Bool
has_not_failed holds trial = trial.stays || not (same_hold trial.hold (hold_at holds trial.leaf))

abbrev pub none_failed : List Hold → List Trial → Bool
none_failed holds trials = list_all (has_not_failed holds) trials

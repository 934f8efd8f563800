-- Values that a leaf takes.
use Rattle.row_updates.proofs.Imports.{◌≡◌, ℕ, zero, suc, ◌+◌, ◌<◌, ◌≤◌, List, [], ◌∷◌, length, get_or, ℤ, pos, true, Option, Some, None, Result, Ok, Err, is_ok, refl, arith, option_or, lane_fault, first_lane_fault, StoreAnswer, without_number, told_lane, stored_count, LaneFault, StoreFault}

module _ (answer : StoreAnswer) (leaf : ℕ) where
  -- a value without a fault in front of others
  fault_free : (lane : ℕ) (one : Result ℤ StoreFault) (rest : Option LaneFault) → option_or (lane_fault lane one) rest ≡ None → (is_ok one ≡ true) × (rest ≡ None)
  fault_free lane one rest none = grind arith

  -- no value has a fault
  pub all_taken : (lane : ℕ) (values : List ℤ) → first_lane_fault answer leaf lane values ≡ None → (k : ℕ) → k < length values → is_ok (answer leaf (get_or values k (pos 0))) ≡ true
  all_taken lane [] none k small = absurd (omega (arith, small))
  all_taken lane (value ∷ values) none zero small = (fault_free lane (answer leaf value) (first_lane_fault answer leaf (lane + 1) values) none).0
  all_taken lane (value ∷ values) none (suc k) small =
      all_taken (lane + 1) values (fault_free lane (answer leaf value) (first_lane_fault answer leaf (lane + 1) values) none).1 k (omega (arith, small))

  -- the values before the first fault have none
  pub record AreTakenUpTo (lane : ℕ) (values : List ℤ) (fault : LaneFault) : Type 0 where
    pub inside : fault.lane < lane + length values
    pub from : lane ≤ fault.lane
    pub taken : (k : ℕ) → lane + k < fault.lane → is_ok (answer leaf (get_or values k (pos 0))) ≡ true

  before_by : (lane : ℕ) (value : ℤ) (values : List ℤ) (fault : LaneFault) (one : Result ℤ StoreFault) → answer leaf value ≡ one
      → (first_lane_fault answer leaf (lane + 1) values ≡ Some fault → AreTakenUpTo (lane + 1) values fault)
      → option_or (lane_fault lane one) (first_lane_fault answer leaf (lane + 1) values) ≡ Some fault → AreTakenUpTo lane (value ∷ values) fault
  before_by lane value values fault one is rest some = grind (arith, is_ok)

  pub taken_before : (lane : ℕ) (values : List ℤ) (fault : LaneFault) → first_lane_fault answer leaf lane values ≡ Some fault → AreTakenUpTo lane values fault
  taken_before lane [] fault some = absurd (cc)
  taken_before lane (value ∷ values) fault some = before_by lane value values fault (answer leaf value) refl (taken_before (lane + 1) values fault) some

-- what is stored of values up to their first fault
pub record IsStored (answer : StoreAnswer) (leaf : ℕ) (values : List ℤ) (count : ℕ) : Type 0 where
  pub few : count ≤ length values
  pub taken : (k : ℕ) → k < count → is_ok (answer leaf (get_or values k (pos 0))) ≡ true

pub stored_front : (answer : StoreAnswer) (leaf : ℕ) (values : List ℤ) (fault : Option LaneFault) → first_lane_fault answer leaf 0 values ≡ fault → IsStored answer leaf values (stored_count (length values) fault)
stored_front answer leaf values None is = record { few = omega arith; taken = all_taken answer leaf 0 values is }
stored_front answer leaf values (Some fault) is = grind (arith, taken_before)

-- what is told of it
pub told_none : (fault : Option LaneFault) (x : Unit {0}) → told_lane fault ≡ Ok x → fault ≡ None
told_none fault x without_number = grind arith

pub told_some : (fault : Option LaneFault) (other : LaneFault) → told_lane fault ≡ Err other → fault ≡ Some other
told_some fault other without_number = grind arith

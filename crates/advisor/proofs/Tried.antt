-- Ways of storing leaves that are tried, and what they say of candidates.
use Rattle.advisor.proofs.Imports.{◌≡◌, ℕ, ◌+◌, ◌<◌, Bool, true, false, ℤ, List, [], ◌∷◌, ◌++◌, All, length, map, get_or, refl, sym, ap, ◌∙◌, subst, arith, ◌==◌, ◌||◌, not, if◌then◌else◌, list_all, range_with_len, true≢false, cases_eq, eq-eqb, eqb-true, and_parts, and_from, list_any-append, list_all-map, Any-from_list_any, AllPass-from_list_all, list_all-from_AllPass, get_or-range_with_len, length-range_with_len, All-push, All-map, Fields, LeafType, least_of, greatest_of, least_in, greatest_in, Hold, Strict, is_between, StoreFault, Table, leaf_count_of, keeps, stays, leaf_stays, all_stay, suits, StoreMode, hold_at, term_of, Candidate, Trial, HasKnownHolds, IsTrial, IsFresh, HasTrials, same_hold, is_for, has_trial, tried_all, has_not_failed, none_failed, same_tests, Ok, Err}
use Rattle.advisor.proofs.Cheapest.{same_images}
use Rattle.advisor.proofs.Chosen.{or_true}

-- a store in a strict view
keep_if : (b : Bool) (value : ℤ) (fault : StoreFault) → keeps value (if b then Ok value else Err fault) ≡ b
keep_if b value fault = grind arith

pub strict_stays : (kind : LeafType) (hold : Hold) (value : ℤ) → is_between (least_of kind) (greatest_of kind) value ≡ true
    → is_between (least_in hold.signed hold.width) (greatest_in hold.signed hold.width) value ≡ stays Strict kind hold value
strict_stays kind hold value inside = grind (arith, keep_if)

-- equal ways
hold_of_parts : Bool → ℕ → Hold
hold_of_parts signed width = record { signed = signed; width = width }

same_signs : (one other : Bool) → (if one then other else not other) ≡ true → one ≡ other
same_signs one other e = grind (arith, true≢false)

sign_self : (one : Bool) → (if one then one else not one) ≡ true
sign_self one = grind arith

pub same_holds : (hold other : Hold) → same_hold hold other ≡ true → hold ≡ other
unfolding hold_of_parts
same_holds hold other e = grind (arith, and_parts, hold_of_parts, same_signs, eqb-true)

pub hold_self : (hold : Hold) → same_hold hold hold ≡ true
hold_self hold = and_from _ _ (sign_self hold.signed) (eq-eqb hold.width hold.width refl)

-- a trial behind others
pub has_kept : (trials : List Trial) (trial : Trial) (leaf : ℕ) (hold : Hold) → has_trial trials leaf hold ≡ true → has_trial (trials ++ trial ∷ []) leaf hold ≡ true
has_kept trials trial leaf hold has = list_any-append (is_for leaf hold) trials (trial ∷ []) ∙ ap (λ b. b || (is_for leaf hold trial || false)) has

pub has_pushed : (trials : List Trial) (trial : Trial) → has_trial (trials ++ trial ∷ []) trial.leaf trial.hold ≡ true
has_pushed trials trial = grind (arith, list_any-append, and_from, eq-eqb, hold_self, or_true)

-- trials of the ways in which the first so many leaves are stored, behind those that were there
pub record ArePushed (fields : Fields) (before : List Trial) (holds : List Hold) (count : ℕ) (trials : List Trial) : Type 0 where
  pub trials_are : All (IsTrial fields) trials
  pub fresh : All IsFresh trials
  pub kept : (leaf : ℕ) (hold : Hold) → has_trial before leaf hold ≡ true → has_trial trials leaf hold ≡ true
  pub all : HasTrials trials holds count

pub one_there : (fields : Fields) (before : List Trial) (holds : List Hold) (count : ℕ) (trials : List Trial) → ArePushed fields before holds count trials
    → has_trial trials count (hold_at holds count) ≡ true → ArePushed fields before holds (count + 1) trials
one_there fields before holds count trials so has = grind (arith, cases_eq)

pub one_pushed : (fields : Fields) (before : List Trial) (holds : List Hold) (count : ℕ) (trials : List Trial) → ArePushed fields before holds count trials
    → (trial : Trial) → IsTrial fields trial → IsFresh trial → trial.leaf ≡ count → trial.hold ≡ hold_at holds count
    → ArePushed fields before holds (count + 1) (trials ++ trial ∷ [])
one_pushed fields before holds count trials so trial is fresh leaf hold =
    one_there fields before holds count (trials ++ trial ∷ [])
    (record {
      trials_are = All-push (IsTrial fields) trials trial so.trials_are is;
      fresh = All-push IsFresh trials trial so.fresh fresh;
      kept = λ leaf hold has. has_kept trials trial leaf hold (so.kept leaf hold has);
      all = λ leaf l. has_kept trials trial leaf (hold_at holds leaf) (so.all leaf l);
    })
    (grind (arith, has_pushed))

must_stay : (stays same : Bool) → (stays || not same) ≡ true → same ≡ true → stays ≡ true
must_stay stays same passed is = grind (arith, true≢false)

may_fail : (stays same : Bool) → (same ≡ true → stays ≡ true) → (stays || not same) ≡ true
may_fail stays same so = grind (arith, true≢false)

-- what trials that have seen all rows say of ways of storing the leaves
module _ (table : Table) (trials : List Trial) (each : All (IsTrial table.fields) trials) (fresh : All IsFresh trials) (holds : List Hold)
    (all : HasTrials trials holds (leaf_count_of table)) where
  abbrev pub seen : Trial → Trial
  seen trial = tried_all table.mode table.rows trial

  -- all values of a leaf stay where it is stored as in a trial
  stays_seen : (trial : Trial) → IsTrial table.fields trial → IsFresh trial → (seen trial).stays ≡ leaf_stays table trial.leaf trial.hold
  stays_seen trial is fresh_trial = grind (arith, list_all, list_all-map)

  -- the trial of the way in which a leaf is stored
  leaf_right : none_failed holds (map seen trials) ≡ true → (leaf : ℕ) → leaf < leaf_count_of table → leaf_stays table leaf (hold_at holds leaf) ≡ true
  leaf_right none leaf l =
      let found = Any-from_list_any (is_for leaf (hold_at holds leaf)) trials (all leaf l) in
      let trial = found.1 in
      let inside : found.0 < length trials = found.2 in
      let is : IsTrial table.fields trial = subst (IsTrial table.fields) found.3 (each found.0 trial inside) in
      let new : IsFresh trial = subst IsFresh found.3 (fresh found.0 trial inside) in
      let parts = and_parts (trial.leaf == leaf) (same_hold trial.hold (hold_at holds leaf)) found.4 in
      let at : trial.leaf ≡ leaf = eqb-true trial.leaf leaf parts.0 in
      let way : trial.hold ≡ hold_at holds leaf = same_holds trial.hold (hold_at holds leaf) parts.1 in
      let passed : (has_not_failed holds (seen (get_or trials found.0 trial))) ≡ true =
      AllPass-from_list_all (λ t. has_not_failed holds (seen t)) trials (sym (list_all-map (has_not_failed holds) seen trials) ∙ none) found.0 trial inside in
      let here : has_not_failed holds (seen trial) ≡ true = ap (λ (t : Trial). has_not_failed holds (seen t)) (sym found.3) ∙ passed in
      let same : same_hold trial.hold (hold_at holds trial.leaf) ≡ true =
      ap (λ (n : ℕ). same_hold trial.hold (hold_at holds n)) at ∙ parts.1 in grind (arith, stays_seen, must_stay)

  -- no trial fails that is of such a way
  trial_right : all_stay table holds ≡ true → (k : ℕ) (d : Trial) → k < length trials → has_not_failed holds (seen (get_or trials k d)) ≡ true
  trial_right stay k d l =
      let trial = get_or trials k d in
      let is : IsTrial table.fields trial = each k d l in
      let leaf = trial.leaf in
      let inside : leaf < length (range_with_len 0 (leaf_count_of table)) = omega (arith, is.inside, length-range_with_len 0 (leaf_count_of table)) in
      let at : leaf ≡ get_or (range_with_len 0 (leaf_count_of table)) leaf 0 = omega (arith, get_or-range_with_len 0 (leaf_count_of table) leaf 0 is.inside) in
      let here : leaf_stays table leaf (hold_at holds leaf) ≡ true = grind (arith, AllPass-from_list_all, range_with_len) in
      grind (arith, may_fail, stays_seen, same_holds)

  pub none_failed_law : none_failed holds (map seen trials) ≡ all_stay table holds
  none_failed_law = grind (arith, same_tests, list_all-from_AllPass, range_with_len, length-range_with_len, get_or-range_with_len, leaf_right, list_all-map, trial_right)

-- what they say of candidates
pub marks_right : (table : Table) (trials : List Trial) → All (IsTrial table.fields) trials → All IsFresh trials → (pool : List Candidate) → All (HasKnownHolds table) pool
    → All (λ candidate. HasTrials trials candidate.holds (length candidate.holds)) pool
    → map (λ candidate. none_failed candidate.holds (map (tried_all table.mode table.rows) trials)) pool ≡ map (λ candidate. suits table (term_of candidate.expr)) pool
unfolding suits
marks_right table trials each fresh pool stored all =
    same_images (λ candidate. none_failed candidate.holds (map (tried_all table.mode table.rows) trials)) (λ candidate. suits table (term_of candidate.expr)) pool
    (λ k d l.
    (let it = get_or pool k d in
    let is : HasKnownHolds table it = stored k d l in
    let have : HasTrials trials it.holds (leaf_count_of table) = subst (λ (n : ℕ). HasTrials trials it.holds n) is.each_leaf (all k d l) in
    none_failed_law table trials each fresh it.holds have ∙ ap (λ (holds : List Hold). all_stay table holds) is.holds_are))

-- rows that were tried leave what a trial is of
pub trials_now : (fields : Fields) (mode : StoreMode) (rows : List (List ℤ)) (before trials : List Trial) → All (IsTrial fields) before → trials ≡ map (tried_all mode rows) before → All (IsTrial fields) trials
trials_now fields mode rows before trials each so =
    subst (λ (ts : List Trial). All (IsTrial fields) ts) {x = map (tried_all mode rows) before} (sym so)
    (All-map (IsTrial fields) (tried_all mode rows) before (λ k d l. (let is = each k d l in record { inside = is.inside; kind_is = is.kind_is; hold = is.hold })))

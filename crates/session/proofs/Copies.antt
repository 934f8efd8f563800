-- Tables that are copied from one place of a list to another.
use Rattle.session.proofs.Imports.{◌≡◌, ◌⊎◌, ⊎_elim, inl, inr, ◌<◌, ◌≤◌, ◌+◌, ℕ, zero, suc, List, [], ◌∷◌, ◌++◌, length, map, get_or, Some, None, Ok, Err, refl, sym, ap, subst, ◌∙◌, arith, slice_set, insert, remove, length-map, length-set, get_or_default, get_or-set_same, get_or-set_other, set-set, map-set, get_or-map, get_or-remove_below, get_or-remove_above, length-remove, Fields, AreAlike, IsCopied, refused_at, own_held, CopyFault, Table, IsTable, leaf_count_of, answer_of, kept_of, after_log, Access, all_accesses, all_touches, Read, Write, after_log-append, kept_rows, own_rows, copy, copied, with_rows, all_read, laid_anew, in_words, narrow_fault, made, zeros_of, MapTerm, CommandFault, Unknown, Name, IsFirst, ◌>>=◌, quiet, known, some_or, World, Entry, replaced, alike, not_alike, view_of, GivesUp, GivesUp-then, goes_then, ViewEntry, StepFault, copied_at, made_like, zeros_like, TellsCopy, Tested, append-nil, tells_gives}
use Rattle.layout_copy.specs.declared.fault.CopyFault.TheVariants as copy
use Rattle.worlds.specs.declared.fault.CommandFault.TheVariants as refusal
use Rattle.session.proofs.Named.{first_found, first_replaced, first_still}

pub first_of : {E : Type 0} (xs : List E) (i : ℕ) → i < length xs → E
first_of [] i small = absurd (omega (arith, small))
first_of (x ∷ xs) i small = x

-- lists in which an element is put in at a place that another one was taken from
put_back : {E : Type 0} (xs : List E) (i : ℕ) (x : E) → i < length xs → insert (remove xs i) i x ≡ slice_set xs i x
put_back [] i x small = absurd (omega (arith, small))
put_back (y ∷ xs) zero x small = refl
put_back (y ∷ xs) (suc i) x small = ap (λ ys. y ∷ ys) (put_back xs i x (omega (arith, small)))

set_before : {E : Type 0} (xs : List E) (gone place : ℕ) (x : E) → gone < length xs → place < gone → slice_set (remove xs gone) place x ≡ remove (slice_set xs place x) gone
set_before [] gone place x small less = absurd (omega (arith, small))
set_before (y ∷ xs) zero place x small less = absurd (omega (arith, less))
set_before (y ∷ xs) (suc gone) zero x small less = refl
set_before (y ∷ xs) (suc gone) (suc place) x small less = ap (λ ys. y ∷ ys) (set_before xs gone place x (omega (arith, small)) (omega (arith, less)))

set_behind : {E : Type 0} (xs : List E) (gone now : ℕ) (x : E) → gone < length xs → gone ≤ now → slice_set (remove xs gone) now x ≡ remove (slice_set xs (suc now) x) gone
set_behind [] gone now x small more = absurd (omega (arith, small))
set_behind (y ∷ xs) zero now x small more = refl
set_behind (y ∷ xs) (suc gone) zero x small more = absurd (omega (arith, more))
set_behind (y ∷ xs) (suc gone) (suc now) x small more = ap (λ ys. y ∷ ys) (set_behind xs gone now x (omega (arith, small)) (omega (arith, more)))

either_way : (a b : ℕ) → (a ≡ b → ⊥) → (a < b) ⊎ (b < a)
either_way zero zero differ = absurd (differ refl)
either_way zero (suc b) differ = inl (omega arith)
either_way (suc a) zero differ = inr (omega arith)
either_way (suc a) (suc b) differ = ⊎_elim (λ (l : a < b). inl (omega (arith, l))) (λ (m : b < a). inr (omega (arith, m))) (either_way a b (λ e. differ (ap suc e)))

-- an element in a list that another one is gone from
pub still_there : {E : Type 0} (xs : List E) (gone place now : ℕ) (d : E) → gone < length xs → (place ≡ gone → ⊥) → (place < gone → now ≡ place) → (gone < place → now + 1 ≡ place) →
    get_or (remove xs gone) now d ≡ get_or xs place d
still_there xs gone place now d small apart before behind = ⊎_elim
    (λ (less : place < gone). ap (λ i. get_or (remove xs gone) i d) (before less) ∙ get_or-remove_below xs gone d place less small)
    (λ (more : gone < place). let next = behind more in get_or-remove_above xs gone d now (omega (arith, next, more)) small ∙ ap (λ i. get_or xs i d) next)
    (either_way place gone apart)

-- and both are changed
both_set : {E : Type 0} (xs : List E) (gone place now : ℕ) (x y : E) → gone < length xs → (place ≡ gone → ⊥) → (place < gone → now ≡ place) → (gone < place → now + 1 ≡ place) →
    insert (slice_set (remove xs gone) now x) gone y ≡ slice_set (slice_set xs place x) gone y
both_set xs gone place now x y small apart before behind =
    let back : insert (remove (slice_set xs place x) gone) gone y ≡ slice_set (slice_set xs place x) gone y = put_back (slice_set xs place x) gone y (rw length-set small) in
    ⊎_elim
    (λ (less : place < gone). ap (λ i. insert (slice_set (remove xs gone) i x) gone y) (before less) ∙ ap (λ ys. insert ys gone y) (set_before xs gone place x small less) ∙ back)
    (λ (more : gone < place).
    let next = behind more in
    let is : suc now ≡ place = omega (arith, next) in
    ap (λ ys. insert ys gone y) (set_behind xs gone now x small (omega (arith, next, more)) ∙ ap (λ i. remove (slice_set xs i x) gone) is) ∙ back)
    (either_way place gone apart)

-- the copy of a table to one that is alike
copied_alike : (source target : Table) → AreAlike source target → copied source target ≡ with_rows in_words target source.rows
unfolding copied
copied_alike source target are = rw (alike source target are) refl

-- a copy onto itself reads each value and writes it
touched_once : (leaves_in rows : ℕ) → all_accesses Read leaves_in rows ++ all_accesses Write leaves_in rows ≡ all_touches 1 1 leaves_in rows
touched_once leaves_in rows =
    ap (λ (log : List Access). log ++ all_accesses Write leaves_in rows) (sym (append-nil (all_accesses Read leaves_in rows)))
    ∙ ap (λ (log : List Access). (all_accesses Read leaves_in rows ++ []) ++ log) (sym (append-nil (all_accesses Write leaves_in rows)))

pub copied_self : (seen now : Table) → IsTable seen → now ≡ after_log seen (all_touches 1 1 (leaf_count_of seen) (length seen.rows)) →
    copied seen (all_read seen) ≡ Ok now
unfolding with_rows
copied_self seen now is touched =
    let reads = all_accesses Read (leaf_count_of seen) (length seen.rows) in
    let writes = all_accesses Write (leaf_count_of seen) (length seen.rows) in
    let read : Table = after_log seen reads in
    let held : refused_at (answer_of read) 0 seen.rows ≡ None = own_held seen is in
    let kept : kept_rows (kept_of read) seen.rows ≡ seen.rows = own_rows seen is in
    let both : after_log read writes ≡ now =
    after_log-append seen reads writes ∙ ap (after_log seen) (touched_once (leaf_count_of seen) (length seen.rows)) ∙ sym touched in
    copied_alike seen read (refl, refl) ∙ rw (held, kept) (ap (λ (s : Table). Ok s) both)

-- a table that is laid out anew is copied into the new one
pub laid_copied : (views : List (Entry Table)) (term : MapTerm) (old fresh : Table) → made views old.mode old.fields old.extents term ≡ Ok fresh →
    fresh ≡ zeros_of old.mode old.fields old.extents term → laid_anew views old term ≡ copied old fresh
unfolding laid_anew
laid_copied views term old fresh made_is zeros =
    let fields : fresh.fields ≡ old.fields = ap (λ (t : Table). t.fields) zeros in
    let extents : fresh.extents ≡ old.extents = ap (λ (t : Table). t.extents) zeros in
    goes_then _ _ _ made_is ∙ sym (copied_alike old fresh (sym fields, sym extents))

-- the same of a table at a place
pub made_at : (views : List ViewEntry) (place : ℕ) (entry : ViewEntry) (term : MapTerm) (fresh : Table) → entry ≡ get_or views place entry →
    made_like (map view_of views) ((get_or views place entry).view) term ≡ Ok fresh → fresh ≡ zeros_like ((get_or views place entry).view) term →
    (made_like (map view_of views) entry.view term ≡ Ok fresh) × (fresh ≡ zeros_like entry.view term)
made_at views place entry term fresh is made_is zeros =
    let old = λ (e : ViewEntry). e.view in (
      subst (λ (e : ViewEntry). made_like (map view_of views) (old e) term ≡ Ok fresh) (sym is) made_is,
      subst (λ (e : ViewEntry). fresh ≡ zeros_like (old e) term) (sym is) zeros,
    )

pub laid_at : (views : List ViewEntry) (place : ℕ) (entry : ViewEntry) (term : MapTerm) (fresh : Table) → entry ≡ get_or views place entry →
    made_like (map view_of views) ((get_or views place entry).view) term ≡ Ok fresh → fresh ≡ zeros_like ((get_or views place entry).view) term →
    laid_anew (map view_of views) entry.view term ≡ copied entry.view fresh
laid_at views place entry term fresh is made_is zeros =
    let made_here = made_at views place entry term fresh is made_is zeros in
    laid_copied (map view_of views) term entry.view fresh made_here.0 made_here.1

-- what a copy answers is what the model's copy gives
pub copied_goes : (source old new : Table) → IsCopied source old new (Ok tt) → copied source old ≡ Ok new
unfolding with_rows
copied_goes source old new is =
    let held : refused_at (answer_of old) 0 source.rows ≡ None = is.1 in
    copied_alike source old is.0 ∙ rw held (ap (λ (seen : Table). Ok seen) (sym is.2))

differs : (source old new : Table) → IsCopied source old new (Err copy.Mismatch) → copied source old ≡ Err refusal.Mismatch
unfolding copied
differs source old new is = rw (not_alike source old is.0) refl

is_narrow : (source old new : Table) (row leaf : ℕ) → IsCopied source old new (Err (copy.Narrow row leaf)) →
    copied source old ≡ Err (narrow_fault old.fields (record { row = row; leaf = leaf }))
unfolding with_rows
is_narrow source old new row leaf is =
    let not_held : refused_at (answer_of old) 0 source.rows ≡ Some (record { row = row; leaf = leaf }) = is.1 in
    copied_alike source old is.0 ∙ rw not_held refl

pub copy_refused : (source old new : Table) (bad : CopyFault) (told : CommandFault) → IsCopied source old new (Err bad) → TellsCopy new.fields bad (Ok told) → copied source old ≡ Err told
copy_refused source old new copy.Mismatch told is tells = tells_gives _ refusal.Mismatch told (differs source old new is) tells
copy_refused source old new (copy.Narrow row leaf) told is tells =
    let same : new.fields ≡ old.fields = ap (λ (seen : Table). seen.fields) is.2 in
    tells_gives _ _ told (is_narrow source old new row leaf is)
    (subst (λ (fields : Fields). told ≡ narrow_fault fields (record { row = row; leaf = leaf })) same tells)

-- an entry that was read
abbrev as_read : Entry Table → Entry Table
as_read entry = record { name = entry.name; held = all_read entry.held }

-- a copy in a list of tables, of a table to one that is as it is where that is read
module _ (tables : List (Entry Table)) (source target : ℕ) (d from to : Entry Table) where
  abbrev with_copy : Table → List (Entry Table)
  with_copy new = slice_set (slice_set tables source (as_read from)) target (record { name = to.name; held = new })

  pub copied_in : get_or tables source d ≡ from → get_or (slice_set tables source (as_read from)) target d ≡ to →
      copied_at tables source target d ≡ (copied from.held to.held >>= (λ new. Ok (with_copy new)))
  copied_in one two =
      ap (λ (f : Entry Table). let read = slice_set tables source (as_read f) in
      copied f.held (get_or read target d).held >>= (λ new. Ok (slice_set read target (record { name = (get_or read target d).name; held = new })))) one
      ∙ ap (λ (t : Entry Table). copied from.held t.held >>= (λ new. Ok (slice_set (slice_set tables source (as_read from)) target (record { name = t.name; held = new })))) two

-- a copy of a table onto itself, in its list
pub kept_to : (views : List ViewEntry) (place : ℕ) (old : ViewEntry) (new : Table) (d : ViewEntry) → place < length views → old ≡ get_or views place old →
    copied old.view (all_read old.view) ≡ Ok new →
    copied_at (map view_of views) place place (view_of d) ≡ Ok (map view_of (slice_set views place (record { name = old.name; view = new })))
kept_to views place old new d small is goes =
    let tables = map view_of views in
    let from : get_or tables place (view_of d) ≡ view_of old = get_or-map view_of views place d ∙ ap view_of (get_or_default views place d old small ∙ sym is) in
    let inside : place < length tables = rw length-map small in
    let to : get_or (slice_set tables place (as_read (view_of old))) place (view_of d) ≡ as_read (view_of old) = get_or-set_same tables place (as_read (view_of old)) (view_of d) inside in
    let changed : ViewEntry = record { name = old.name; view = new } in
    copied_in tables place place (view_of d) (view_of old) (as_read (view_of old)) from to
    ∙ goes_then _ _ _ goes
    ∙ ap (λ (t : List (Entry Table)). Ok t) (set-set tables place (as_read (view_of old)) (view_of changed) ∙ sym (map-set view_of views place changed))

-- the two views of a copy, of which the target is out of the list
pub record AreApart (views : List ViewEntry) (source target place : ℕ) (entry old : ViewEntry) : Type 0 where
  pub inside : target < length views
  pub place_in : place < length (remove views target)
  pub apart : source ≡ target → ⊥
  pub before : source < target → place ≡ source
  pub behind : target < source → place + 1 ≡ source
  pub entry_is : entry ≡ get_or (remove views target) place entry
  pub old_is : old ≡ get_or views target old

place_within : (source target place long less : ℕ) → source < long → target < long → less + 1 ≡ long → (source ≡ target → ⊥) → (source < target → place ≡ source) → (target < source → place + 1 ≡ source) → place < less
place_within source target place long less a b c apart before behind = ⊎_elim
    (λ (l : source < target). let e = before l in omega (arith, e, l, b, c))
    (λ (m : target < source). let e = behind m in omega (arith, e, a, c))
    (either_way source target apart)

pub are_apart : (views : List ViewEntry) (source target place : ℕ) (entry old : ViewEntry) → source < length views → target < length views → (source ≡ target → ⊥) →
    (source < target → place ≡ source) → (target < source → place + 1 ≡ source) → entry ≡ get_or (remove views target) place entry → old ≡ get_or views target old → AreApart views source target place entry old
are_apart views source target place entry old from to apart before behind entry_is old_is = record {
  inside = to;
  place_in = place_within source target place (length views) (length (remove views target)) from to (length-remove views target to) apart before behind;
  apart = apart;
  before = before;
  behind = behind;
  entry_is = entry_is;
  old_is = old_is;
}

-- what they are in the list
source_in : (views : List ViewEntry) (source target place : ℕ) (entry old d : ViewEntry) → AreApart views source target place entry old → get_or (map view_of views) source (view_of d) ≡ view_of entry
source_in views source target place entry old d are =
    get_or-map view_of views source d
    ∙ ap view_of (sym (are.entry_is ∙ get_or_default (remove views target) place entry d are.place_in ∙ still_there views target source place d are.inside are.apart are.before are.behind))

target_in : (views : List ViewEntry) (source target place : ℕ) (entry old d : ViewEntry) (changed : Entry Table) → AreApart views source target place entry old →
    get_or (slice_set (map view_of views) source changed) target (view_of d) ≡ view_of old
target_in views source target place entry old d changed are =
    get_or-set_other (map view_of views) source target changed (view_of d) (λ e. are.apart (sym e))
    ∙ get_or-map view_of views target d ∙ ap view_of (sym (are.old_is ∙ get_or_default views target old d are.inside))

-- a copy between them
apart_is : (views : List ViewEntry) (source target place : ℕ) (entry old d : ViewEntry) → AreApart views source target place entry old →
    copied_at (map view_of views) source target (view_of d) ≡ (copied entry.view old.view >>= (λ new. Ok (with_copy (map view_of views) source target (view_of d) (view_of entry) (view_of old) new)))
apart_is views source target place entry old d are =
    copied_in (map view_of views) source target (view_of d) (view_of entry) (view_of old) (source_in views source target place entry old d are)
    (target_in views source target place entry old d (as_read (view_of entry)) are)

pub apart_not : (views : List ViewEntry) (source target place : ℕ) (entry old d : ViewEntry) (fault : StepFault) → AreApart views source target place entry old → GivesUp (copied entry.view old.view) fault →
    GivesUp (copied_at (map view_of views) source target (view_of d)) fault
apart_not views source target place entry old d fault are gives =
    subst (λ (o : Tested (List (Entry Table))). GivesUp o fault) (sym (apart_is views source target place entry old d are)) (GivesUp-then _ _ fault gives)

pub apart_to : (views now : List ViewEntry) (source target place : ℕ) (entry old d : ViewEntry) (source_now target_now : Table) → AreApart views source target place entry old →
    source_now ≡ after_log entry.view (all_accesses Read (leaf_count_of entry.view) (length entry.view.rows)) →
    now ≡ insert (slice_set (remove views target) place (record { name = entry.name; view = source_now })) target (record { name = old.name; view = target_now }) →
    copied entry.view old.view ≡ Ok target_now →
    copied_at (map view_of views) source target (view_of d) ≡ Ok (map view_of now)
apart_to views now source target place entry old d source_now target_now are read is goes =
    let tables = map view_of views in
    let from : ViewEntry = record { name = entry.name; view = source_now } in
    let to : ViewEntry = record { name = old.name; view = target_now } in
    let list : now ≡ slice_set (slice_set views source from) target to = is ∙ both_set views target source place from to are.inside are.apart are.before are.behind in
    let seen : as_read (view_of entry) ≡ view_of from = ap (λ (s : Table). record { name = entry.name; held = s }) (sym read) in
    apart_is views source target place entry old d are ∙ goes_then _ _ _ goes
    ∙ ap (λ (t : List (Entry Table)). Ok t)
    (ap (λ (e : Entry Table). slice_set (slice_set tables source e) target (view_of to)) seen
    ∙ ap (λ (t : List (Entry Table)). slice_set t target (view_of to)) (sym (map-set view_of views source from))
    ∙ sym (map-set view_of (slice_set views source from) target to) ∙ ap (map view_of) (sym list))

-- one outcome behind another
then_same : {A B C : Type 0} (first : Tested A) (f : A → B) (g : A → Tested C) (next : B → Tested C) → ((a : A) → g a ≡ next (f a)) → (first >>= g) ≡ ((first >>= (λ a. Ok (f a))) >>= next)
then_same (Ok a) f g next same = same a
then_same (Err fault) f g next same = refl

-- a copy by the places of the two tables
pub copy_in : (world : World) (name target_name : List ℕ) (source target : ℕ) (d : Entry Table) → IsFirst name world.views source → IsFirst target_name world.views target →
    copy world name target_name ≡ (copied_at world.views source target d >>= (λ views. quiet (record world { views = views })))
unfolding copy
copy_in world name target_name source target d one two =
    let from = get_or world.views source d in
    let read = slice_set world.views source (as_read from) in
    let to = get_or read target d in
    let is : replaced name (all_read from.held) world.views ≡ read = first_replaced name world.views source d (all_read from.held) one in
    let there : IsFirst target_name read target = first_still target_name world.views target source d (all_read from.held) two in
    goes_then _ _ _ (ap (some_or (Unknown (Name name))) (first_found name world.views source d one))
    ∙ goes_then _ _ _ (ap (known target_name) is ∙ ap (some_or (Unknown (Name target_name))) (first_found target_name read target d there))
    ∙ then_same (copied from.held to.held) (λ (new : Table). slice_set read target (record { name = to.name; held = new })) _ (λ (views : List (Entry Table)). quiet (record world { views = views }))
    (λ new. ap (λ (views : List (Entry Table)). quiet (record world { views = views })) (ap (replaced target_name new) is ∙ first_replaced target_name read target d new there))

-- Laws of a text that is gathered in a buffer.
use Rattle.std.specs.Prelude.{◌≡◌, ℕ, ◌+◌, ◌<◌, ◌≤◌, List, [], ◌++◌, length, take, drop, get_or, flat_map, Option, Result, Ok, Err, IsErr}
use Rattle.std.proofs.Common.{ap, subst, ◌∙◌, arith, append_assoc, length-append}
use Rattle.std.proofs.lemmas.List.{append-nil, take_all}
use Rattle.layout_io.specs.Writing.{Wrote, Stopped, Writes}
use Rattle.layout_io.specs.WritingLaws.{with_bytes-nil, with_bytes-append, flat_map_split, Wrote-append, Stopped-first, Stopped-second}
use Rattle.layout_io.specs.Gathering.{Gathers, GathersOrStops, Puts}

-- at the start a buffer gathers what it holds
pub Gathers-start : {K : Type 0} (taken : K → Option (List ℕ)) (faults : K → ℕ) (first : K) (held : List ℕ) → Gathers taken faults first first held held
Gathers-start taken faults first held = grind (arith, with_bytes-nil)

-- more in the buffer is more of the text
pub Gathers-append : {K : Type 0} {taken : K → Option (List ℕ)} {faults : K → ℕ} {first now : K} {held text : List ℕ} (more : List ℕ) → Gathers taken faults first now held text
    → Gathers taken faults first now (held ++ more) (text ++ more)
Gathers-append {held} more gathers = grind (arith, append_assoc)

-- the sink took what the buffer held
pub Wrote-gathered : {K : Type 0} {taken : K → Option (List ℕ)} {faults : K → ℕ} {first now new : K} {held text : List ℕ} → Gathers taken faults first now held text
    → Wrote taken faults now new held → Wrote taken faults first new text
Wrote-gathered {taken} {faults} {first} {new} gathers wrote =
    subst (λ t. Wrote taken faults first new t) gathers.whole (Wrote-append (record { bytes = gathers.bytes; unfailed = gathers.unfailed }) wrote)

-- the sink stopped within what the buffer held
pub Stopped-gathered : {K : Type 0} {taken : K → Option (List ℕ)} {faults : K → ℕ} {first now new : K} {held text : List ℕ} → Gathers taken faults first now held text
    → Stopped taken faults now new held → Stopped taken faults first new text
Stopped-gathered {taken} {faults} {first} {new} gathers stop = grind (arith, Stopped-second)

-- a text that was written is gathered by an empty buffer
pub Gathers-written : {K : Type 0} {taken : K → Option (List ℕ)} {faults : K → ℕ} {first now : K} {text : List ℕ} → Wrote taken faults first now text → Gathers taken faults first now [] text
Gathers-written {text} wrote = grind (arith, append-nil)

-- a text that was gathered into a text that was gathered
pub Gathers-trans : {K : Type 0} {taken : K → Option (List ℕ)} {faults : K → ℕ} {first mid now : K} {held whole text : List ℕ} → Gathers taken faults first mid whole text
    → Gathers taken faults mid now held whole → Gathers taken faults first now held text
Gathers-trans {taken} {first} {held} before after = grind (arith, with_bytes-append, append_assoc)

-- a buffer that was handed to the sink, or stopped within it
pub Writes-gathered : {K T E : Type 0} {taken : K → Option (List ℕ)} {faults : K → ℕ} {first now : K} {held text : List ℕ} (new : K) (result : Result T E)
    → Gathers taken faults first now held text → Writes taken faults now new result held → Writes taken faults first new result text
Writes-gathered new (Ok value) gathers wrote = Wrote-gathered gathers wrote
Writes-gathered new (Err error) gathers stop = Stopped-gathered gathers stop

-- what is left where a function gives up
pub GathersOrStops-err : {K T E : Type 0} {taken : K → Option (List ℕ)} {faults : K → ℕ} {first now : K} {text : List ℕ} (result : Result T E) (held : List ℕ) → IsErr result
    → Stopped taken faults first now text → GathersOrStops taken faults first now result held text
GathersOrStops-err result held err stop = grind arith

-- one piece after another
pub Puts-append : {K T S E D : Type 0} {taken : K → Option (List ℕ)} {faults : K → ℕ} {old mid new : K} {was kept held a b : List ℕ} {value : S} {result : Result T E}
    → Puts {E = D} taken faults old mid was kept (Ok value) a → Puts taken faults mid new kept held result b → Puts taken faults old new was held result (a ++ b)
Puts-append {was} {kept} {a} {b} before after = record {
  gathers = λ first text gathers. rw (← append_assoc text a b) (after.gathers first (text ++ a) (before.gathers first text gathers));
  bound = λ bound. after.bound (before.bound bound);
  fits = λ fits.
      let first = before.fits (omega (arith, length-append a b)) in
      let second = after.fits (omega (arith, ap length first.2, length-append was a, length-append a b)) in
      (second.0, second.1 ∙ first.1, second.2 ∙ ap (λ front. front ++ b) first.2 ∙ append_assoc was a b);
  stopped = after.stopped;
}

-- a call that stopped in a front of a piece, where the function then gives up
pub Puts-stop : {K T S E F : Type 0} {taken : K → Option (List ℕ)} {faults : K → ℕ} {old new : K} {was held a : List ℕ} {error : F} (result : Result T E) (b : List ℕ) → IsErr result
    → Puts {T = S} taken faults old new was held (Err error) a → Puts taken faults old new was held result (a ++ b)
Puts-stop (Ok value) b err puts = absurd (cc)
Puts-stop {a} (Err error) b err puts = record {
  gathers = λ first text gathers. rw (← append_assoc text a b) (Stopped-first b (puts.gathers first text gathers));
  bound = puts.bound;
  fits = λ fits. let clash = (puts.fits (omega (arith, length-append a b))).0 in absurd (cc);
  stopped = puts.stopped;
}

-- what follows a stop
pub Puts-stopped : {K T E : Type 0} {taken : K → Option (List ℕ)} {faults : K → ℕ} {old new : K} {was held a : List ℕ} (result : Result T E) (b : List ℕ) → IsErr result
    → Puts taken faults old new was held result a → Puts taken faults old new was held result (a ++ b)
Puts-stopped (Ok value) b err puts = absurd (cc)
Puts-stopped (Err error) b err puts = Puts-stop (Err error) b err puts

-- the same in a second piece, after a first one
pub Puts-second : {K T R S E F D : Type 0} {taken : K → Option (List ℕ)} {faults : K → ℕ} {old mid new : K} {was kept held a b : List ℕ} {value : R} {error : F} (result : Result T E) (c : List ℕ)
    → IsErr result → Puts {E = D} taken faults old mid was kept (Ok value) a → Puts {T = S} taken faults mid new kept held (Err error) b → Puts taken faults old new was held result ((a ++ b) ++ c)
Puts-second result c err before stop = Puts-stop result c err (Puts-append before stop)

-- a loop that put f of the first items, and then stopped within f of the item at i
pub Puts-loop_err : {K X T R S E F D : Type 0} {taken : K → Option (List ℕ)} {faults : K → ℕ} {old mid new : K} {was kept held : List ℕ} {value : R} {error : F} (result : Result T E)
    (f : X → List ℕ) (xs : List X) (i : ℕ) (d : X) → i < length xs → IsErr result → Puts {E = D} taken faults old mid was kept (Ok value) (flat_map f (take i xs))
    → Puts {T = S} taken faults mid new kept held (Err error) (f (get_or xs i d)) → Puts taken faults old new was held result (flat_map f xs)
Puts-loop_err {taken} {faults} {old} {new} {was} {held} result f xs i d small err before stop =
    subst (λ piece. Puts taken faults old new was held result piece) (flat_map_split f xs i d small) (Puts-second result (flat_map f (drop (i + 1) xs)) err before stop)

-- a loop that put f of all items
pub Puts-loop_ok : {K X T E : Type 0} {taken : K → Option (List ℕ)} {faults : K → ℕ} {old new : K} {was held : List ℕ} {result : Result T E} (f : X → List ℕ) (xs : List X) (i : ℕ) → length xs ≤ i
    → Puts taken faults old new was held result (flat_map f (take i xs)) → Puts taken faults old new was held result (flat_map f xs)
Puts-loop_ok f xs i all puts = rw (← take_all i xs all) puts

-- a new buffer, a text put into it, and the buffer handed to the sink
pub Writes-puts : {K T S E D : Type 0} {taken : K → Option (List ℕ)} {faults : K → ℕ} {old mid : K} {was held text : List ℕ} {value : S} (new : K) (result : Result T E) → was ≡ []
    → Puts {E = D} taken faults old mid was held (Ok value) text → ((first : K) (text : List ℕ) → Gathers taken faults first mid held text → Writes taken faults first new result text)
    → Writes taken faults old new result text
Writes-puts {taken} {faults} {old} {was} {text} new result empty puts flushed = flushed old text (puts.gathers old [] (rw empty (Gathers-start taken faults old [])))

-- a new buffer, and a stop in the text put into it
pub Writes-puts_err : {K T E : Type 0} {taken : K → Option (List ℕ)} {faults : K → ℕ} {old new : K} {was held text : List ℕ} (result : Result T E) → was ≡ [] → IsErr result
    → Puts taken faults old new was held result text → Writes taken faults old new result text
Writes-puts_err (Ok value) empty err puts = absurd (cc)
Writes-puts_err {taken} {faults} {old} (Err error) empty err puts = puts.gathers old [] (rw empty (Gathers-start taken faults old []))

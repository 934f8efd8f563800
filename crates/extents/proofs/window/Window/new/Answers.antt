use Rattle.extents.proofs.Imports.{◌≡◌, ◌≤◌, length, ap, ◌∙◌, sym, subst, arith, rules, List, ℕ, map, take, take_all, product, length-indices, extent_of, ExtentWord, Span, IsWindow, sizes, fixed_size, product_le, fixed_extents}
use Rattle.extents.proofs.window.Window.new.Goals as goal

words_are : (words : List ExtentWord) (spans : List Span) (k size : ℕ) → words ≡ map fixed_size (take k spans) → length spans ≤ k → map (extent_of size) words ≡ sizes spans
words_are words spans k size so over =
    ap (map (extent_of size)) (so ∙ ap (λ (xs : List Span). map fixed_size xs) (take_all k spans over)) ∙ fixed_extents spans size

pub overflow_cast-rows : goal.overflow_cast-rows
overflow_cast-rows c =
    let is : IsWindow c.sizes.result.now c.args.spans.now = c.is_window.ensures.0 (search rules) in
    let words = words_are c.loop-span.words.items c.args.spans.now c.loop-span.span-index 1 c.loop-span.invariant.1 (omega arith) in
    let same = c.fixed_product-rows.ensures ∙ ap (λ (ws : List ExtentWord). product (map (extent_of 1) ws)) c.as_slice.ensures.value ∙ ap product words in
    omega (
      arith,
      same,
      product_le c.sizes.result.now c.args.spans.now is,
      length-indices c.sizes.result.now,
      ap (λ (xs : List ℕ). product xs) c.sizes.ensures.value,
      length-indices c.args.extents.now,
      c.sizes.ensures.extents.rows,
    )

pub of_words-requires-clause-counted : goal.of_words-requires-clause-counted
of_words-requires-clause-counted c =
    let words = words_are c.loop-span.words.items c.args.spans.now c.loop-span.span-index 1 c.loop-span.invariant.1 (omega arith) in
    let other = words_are c.loop-span.words.items c.args.spans.now c.loop-span.span-index 0 c.loop-span.invariant.1 (omega arith) in grind arith

pub of_words-requires-clause-few : goal.of_words-requires-clause-few
of_words-requires-clause-few c =
    let is : IsWindow c.sizes.result.now c.args.spans.now = c.is_window.ensures.0 (search rules) in
    let words = words_are c.loop-span.words.items c.args.spans.now c.loop-span.span-index 1 c.loop-span.invariant.1 (omega arith) in
    let same = c.fixed_product-rows.ensures ∙ ap (λ (ws : List ExtentWord). product (map (extent_of 1) ws)) c.as_slice.ensures.value ∙ ap product words in
    omega (
      arith,
      same,
      product_le c.sizes.result.now c.args.spans.now is,
      ap (λ (xs : List ℕ). product xs) c.sizes.ensures.value,
      length-indices c.args.extents.now,
      c.sizes.ensures.extents.rows,
    )

pub invariant_of-result : goal.invariant_of-result
invariant_of-result c =
    let is : IsWindow c.sizes.result.now c.args.spans.now = c.is_window.ensures.0 (search rules) in
    let all : c.loop-span.kept.items ≡ c.args.spans.now = c.loop-span.invariant.0 ∙ take_all c.loop-span.span-index c.args.spans.now (omega arith) in
    let here : IsWindow c.args.extents.now c.loop-span.kept.items = rw all (subst (λ (xs : List ℕ). IsWindow xs c.args.spans.now) c.sizes.ensures.value is) in
    let words = words_are c.loop-span.words.items c.args.spans.now c.loop-span.span-index 0 c.loop-span.invariant.1 (omega arith) in
    (here, c.of_words.ensures ∙ ap (λ (ws : List ExtentWord). map (extent_of 0) ws) c.as_slice-2.ensures.value ∙ words ∙ sym (ap sizes all), c.sizes.ensures.extents)

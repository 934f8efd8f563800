use Rattle.session.proofs.Lemmas.{rules, ◌≡◌, Err, AreApart, apart_not, apart_to, are_apart, apart_within}
use Rattle.session.proofs.copy.copy_apart.Goals as goal

pub returns-in_err-copy_into-clause-copied : goal.returns-in_err-copy_into-clause-copied
returns-in_err-copy_into-clause-copied g c = λ d.
    let views = c.args.views.now.items in
    let are : AreApart views c.args.source c.args.target c.place_without-place.result c.index_mut.result.now c.remove-entry.result =
    are_apart views c.args.source c.args.target c.place_without-place.result c.index_mut.result.now c.remove-entry.result c.requires.source c.requires.target c.requires.apart
    c.place_without-place.ensures.before c.place_without-place.ensures.behind (rw c.remove-entry.ensures.items at c.index_mut.ensures.value) c.remove-entry.ensures.value in
    let is : c.from_residual.result ≡ Err c.in_err-copy_into.field-0.0 = search rules in
    rw is (apart_not views c.args.source c.args.target c.place_without-place.result c.index_mut.result.now c.remove-entry.result d c.in_err-copy_into.field-0.0 are c.in_err-copy_into.ensures.copied)

pub returns-clause-copied : goal.returns-clause-copied
returns-clause-copied g c = λ d.
    let views = c.args.views.now.items in
    let are : AreApart views c.args.source c.args.target c.place_without-place.result c.index_mut.result.now c.remove-entry.result =
    are_apart views c.args.source c.args.target c.place_without-place.result c.index_mut.result.now c.remove-entry.result c.requires.source c.requires.target c.requires.apart
    c.place_without-place.ensures.before c.place_without-place.ensures.behind (rw c.remove-entry.ensures.items at c.index_mut.ensures.value) c.remove-entry.ensures.value in
    apart_to views c.insert.new.self.items c.args.source c.args.target c.place_without-place.result c.index_mut.result.now c.remove-entry.result d c.copy_into.new.source c.copy_into.new.target are c.in_ok-copy_into.ensures.read
    (rw c.remove-entry.ensures.items at c.in_ok-insert.ensures.items) c.in_ok-copy_into.ensures.copied

pub returns-in_err-copy_into-clause-bound : goal.returns-in_err-copy_into-clause-bound
returns-in_err-copy_into-clause-bound g c = λ d.
    let views = c.args.views.now.items in
    let are : AreApart views c.args.source c.args.target c.place_without-place.result c.index_mut.result.now c.remove-entry.result =
    are_apart views c.args.source c.args.target c.place_without-place.result c.index_mut.result.now c.remove-entry.result c.requires.source c.requires.target c.requires.apart
    c.place_without-place.ensures.before c.place_without-place.ensures.behind (rw c.remove-entry.ensures.items at c.index_mut.ensures.value) c.remove-entry.ensures.value in
    apart_within views c.args.source c.args.target c.place_without-place.result c.index_mut.result.now c.remove-entry.result d c.args.steps.now c.copy_into.new.steps are c.in_err-copy_into.ensures.bound

pub returns-in_err-insert-clause-bound : goal.returns-in_err-insert-clause-bound
returns-in_err-insert-clause-bound g c = λ d.
    let views = c.args.views.now.items in
    let are : AreApart views c.args.source c.args.target c.place_without-place.result c.index_mut.result.now c.remove-entry.result =
    are_apart views c.args.source c.args.target c.place_without-place.result c.index_mut.result.now c.remove-entry.result c.requires.source c.requires.target c.requires.apart
    c.place_without-place.ensures.before c.place_without-place.ensures.behind (rw c.remove-entry.ensures.items at c.index_mut.ensures.value) c.remove-entry.ensures.value in
    apart_within views c.args.source c.args.target c.place_without-place.result c.index_mut.result.now c.remove-entry.result d c.args.steps.now c.copy_into.new.steps are c.in_ok-copy_into.ensures.bound

pub returns-clause-bound : goal.returns-clause-bound
returns-clause-bound g c = λ d.
    let views = c.args.views.now.items in
    let are : AreApart views c.args.source c.args.target c.place_without-place.result c.index_mut.result.now c.remove-entry.result =
    are_apart views c.args.source c.args.target c.place_without-place.result c.index_mut.result.now c.remove-entry.result c.requires.source c.requires.target c.requires.apart
    c.place_without-place.ensures.before c.place_without-place.ensures.behind (rw c.remove-entry.ensures.items at c.index_mut.ensures.value) c.remove-entry.ensures.value in
    apart_within views c.args.source c.args.target c.place_without-place.result c.index_mut.result.now c.remove-entry.result d c.args.steps.now c.copy_into.new.steps are c.in_ok-copy_into.ensures.bound

-- a mapping that is dropped is one still
pub invariant_of-entry : goal.invariant_of-entry
invariant_of-entry g c =
    let m = c.drop.inside.map in
    record { built = m.built; numbers = m.numbers; full = m.full; held = m.held; sized = m.sized; ruled = m.ruled; wide = m.wide; arrays = m.arrays; uncounted = m.uncounted }

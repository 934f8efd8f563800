-- what is left of a value is no deeper than the value
use Rattle.record_dim.proofs.Imports.{◌≤◌}
use Rattle.record_dim.proofs.+dim.Given as goal

abbrev pub decreases-dim::Dim::drop : goal.decreases-dim::Dim::drop
decreases-dim::Dim::drop l = goal.size-dim::Dim::drop l

abbrev pub decreases-dim::FieldList::drop : goal.decreases-dim::FieldList::drop
decreases-dim::FieldList::drop l = goal.size-dim::FieldList::drop l

abbrev pub invariant-dim::Dim::drop-loop-self : goal.invariant-dim::Dim::drop-loop-self
invariant-dim::Dim::drop-loop-self l =
    goal.size-dim::Dim::drop (record { self = l.self; the-lifetimes = _ }) ≤ goal.size-dim::Dim::drop (record { self = l.initial.self; the-lifetimes = _ })

abbrev pub invariant-dim::FieldList::drop-loop-self : goal.invariant-dim::FieldList::drop-loop-self
invariant-dim::FieldList::drop-loop-self l =
    goal.size-dim::FieldList::drop (record { self = l.self; the-lifetimes = _ }) ≤ goal.size-dim::FieldList::drop (record { self = l.initial.self; the-lifetimes = _ })

-- When a schema is refused.
use Rattle.std.specs.Prelude.{◌≡◌, Option, Some}
use Rattle.record_dim.specs.declared.fault.BadRecord.{BadRecord}
use Rattle.record_dim.specs.declared.fault.MakeSchema.{MakeSchema}
use Rattle.record_dim.specs.declared.fault.MakeSchema.TheVariants as refused

-- the refusal names this fault, or memory was wanting
abbrev pub Names : Option BadRecord → MakeSchema → Type 0
Names fault (refused.Bad bad) = fault ≡ Some bad
Names fault refused.NoMemory = Unit {0}

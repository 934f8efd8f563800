-- What the answer of a mapping's constructor says of the expression.
use Rattle.map_checks.specs.Imports.{NewMapping, Lanes, Width, NotFull, Side}
use Rattle.places.specs.declared.mapping.NewMapping.TheVariants as new
use Rattle.map_checks.specs.declared.fault.MakeMap.{MakeMap}
use Rattle.map_checks.specs.declared.fault.MakeMap.TheVariants.{Bad, TooBig, NoMemory}

abbrev pub fault_of : NewMapping → MakeMap
fault_of new.Lanes = Bad Lanes
fault_of new.Width = Bad Width
fault_of new.NotFull = Bad NotFull
fault_of new.Side = Bad Side
fault_of new.TooBig = TooBig
fault_of new.NoMemory = NoMemory

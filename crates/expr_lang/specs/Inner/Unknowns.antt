-- What the search for unknown names finds, as the fault that is told of it.
use Rattle.std.specs.Prelude.{Option}
use Rattle.std.specs.Option.{option_map}
use Rattle.expr_lang.specs.declared.binding.Unknown.{Unknown}
use Rattle.expr_lang.specs.declared.binding.Unknown.TheVariants as unknown
use Rattle.expr_lang.specs.declared.fault.BindFault.{BindFault}
use Rattle.expr_lang.specs.declared.fault.BindFault.TheVariants as fault

abbrev pub fault_of : Unknown → BindFault
fault_of (unknown.Path path) = fault.UnknownPath path.now
fault_of (unknown.Index dimension) = fault.UnknownIndex dimension

abbrev pub told : Option Unknown → Option BindFault
told found = option_map fault_of found

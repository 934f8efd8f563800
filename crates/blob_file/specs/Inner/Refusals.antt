-- The fault of a file whose text is no line.
use Rattle.blob_file.specs.Imports.{LineFault, Syntax, TooDeep, NoMemory}
use Rattle.blob_file.specs.declared.fault.FileFault.{FileFault}
use Rattle.blob_file.specs.declared.fault.FileFault.TheVariants as fault

abbrev pub refusal : LineFault → FileFault
refusal (Syntax column) = fault.Header
refusal TooDeep = fault.Header
refusal NoMemory = fault.NoMemory

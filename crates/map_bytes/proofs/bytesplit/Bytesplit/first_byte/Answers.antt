use Rattle.map_bytes.proofs.Imports.{slice_index, arith, byte_count_before, common_steps}
use Rattle.map_bytes.proofs.Inner.{bytes_held, bytes_within}
use Rattle.map_bytes.proofs.bytesplit.Bytesplit.first_byte.Goals as goal

pub count_bytes-requires : goal.count_bytes-requires
count_bytes-requires g c = grind (arith, common_steps, slice_index, bytes_within, bytes_held)

pub returns-clause-first : goal.returns-clause-first
returns-clause-first g c = grind (arith, common_steps, byte_count_before)

pub returns-clause-within : goal.returns-clause-within
returns-clause-within g c = grind (arith, common_steps, slice_index, bytes_within, bytes_held)

pub returns-clause-fits : goal.returns-clause-fits
returns-clause-fits g c = grind (arith, common_steps, slice_index, returns-clause-within)

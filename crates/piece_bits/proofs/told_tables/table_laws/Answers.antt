use Rattle.piece_bits.proofs.Imports.{image_of_table, settled_after, image_table, declared_with_entry}
use Rattle.piece_bits.proofs.told_tables.table_laws.Goals as goal

pub returns-clause-image : goal.returns-clause-image
returns-clause-image c = image_of_table

pub returns-clause-told : goal.returns-clause-told
returns-clause-told c = λ mode layout slots kinds holds laid paired table bits is shape stays. image_table layout slots holds laid table bits is mode kinds paired shape stays

pub returns-clause-settled : goal.returns-clause-settled
returns-clause-settled c = settled_after

pub returns-clause-changed : goal.returns-clause-changed
returns-clause-changed c = declared_with_entry

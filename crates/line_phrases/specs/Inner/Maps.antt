-- Mappings as they are read.
use Rattle.line_phrases.specs.Imports.{Box, box_value, ℕ, List, Global, Order, FieldWidth, MapExpr, MapTerm, BitAos, BitSoa, Byteswap, Bytesplit, Count, MapWord}
use Rattle.map_expr.specs.Terms.{term_of}
use Rattle.line_grammar.specs.declared.line.MapWord.TheVariants as form
use Rattle.line_phrases.specs.declared.maps.BitForm.{BitForm}
use Rattle.line_phrases.specs.declared.maps.BitForm.TheVariants as bits

-- the mapping that was read
abbrev pub boxed_map : Box MapExpr Global → MapTerm
boxed_map boxed = term_of (box_value boxed)

-- one of the forms that have a mapping in them and nothing else
abbrev pub over : MapWord → MapTerm → MapTerm
over form.Byteswap inner = Byteswap inner
over form.Bytesplit inner = Bytesplit inner
over other inner = Count inner

-- what is made of a width, those of chosen leaves and an order
abbrev pub bits_of : BitForm → ℕ → List FieldWidth → Order → MapTerm
bits_of bits.Aos = BitAos
bits_of bits.Soa = BitSoa

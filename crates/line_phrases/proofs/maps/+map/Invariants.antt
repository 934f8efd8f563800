-- a form is read by what reads a mapping, and its maps with less room
use Rattle.line_phrases.proofs.Imports.{◌+◌, ◌*◌}
use Rattle.line_phrases.proofs.maps.+map.Given as goal

abbrev pub decreases-read_boxed : goal.decreases-read_boxed
decreases-read_boxed l = 3 * l.room

abbrev pub decreases-read_form : goal.decreases-read_form
decreases-read_form l = 3 * l.room + 2

abbrev pub decreases-read_split : goal.decreases-read_split
decreases-read_split l = 3 * l.room + 1

abbrev pub decreases-read_change : goal.decreases-read_change
decreases-read_change l = 3 * l.room + 1

abbrev pub decreases-read_heat : goal.decreases-read_heat
decreases-read_heat l = 3 * l.room + 1

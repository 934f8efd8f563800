-- what is read on gives the whole list of fields; a field's braces have less room
use Rattle.line_phrases.proofs.Imports.{◌≡◌, ◌<◌, ◌+◌, ◌*◌, map, length, boxed_field, read, later, listed, field_within}
use Rattle.line_phrases.proofs.fields.+fields.Given as goal

abbrev pub decreases-read_braced : goal.decreases-read_braced
decreases-read_braced l = 3 * l.room + 2

abbrev pub decreases-read_field_list : goal.decreases-read_field_list
decreases-read_field_list l = 3 * l.room + 1

abbrev pub decreases-read_field : goal.decreases-read_field
decreases-read_field l = 3 * l.room

abbrev pub invariant-read_field_list-loop-alloc : goal.invariant-read_field_list-loop-alloc
invariant-read_field_list-loop-alloc l = record {
  same : read (later (field_within l.room) (map boxed_field l.fields.items)) l.tokens ≡ read (listed (field_within l.room)) l.fn.tokens;
  shorter : length l.tokens < length l.fn.tokens;
}

abbrev pub decreases-read_field_list-loop-alloc : goal.decreases-read_field_list-loop-alloc
decreases-read_field_list-loop-alloc l = length l.tokens

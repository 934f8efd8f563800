-- the fields that are left, in front of what is built
use Rattle.line_phrases.proofs.Imports.{◌≡◌, map, vec_len, fields_of, boxed_field, fields_of_list, onto}
use Rattle.line_phrases.proofs.fields.field_list.Given as goal

abbrev pub invariant-loop-field : goal.invariant-loop-field
invariant-loop-field l =
    onto (map boxed_field l.fields.items) (fields_of l.list) ≡ fields_of_list (map boxed_field l.fn.fields.items)

abbrev pub decreases-loop-field : goal.decreases-loop-field
decreases-loop-field l = vec_len l.fields

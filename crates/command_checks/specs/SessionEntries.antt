-- What the entries of a session are in its world.
use Rattle.command_checks.specs.Imports.{Fields, schema_fields, MapTerm, term_of, Table, Entry}
use Rattle.command_checks.specs.declared.entries.RecordEntry.{RecordEntry}
use Rattle.command_checks.specs.declared.entries.ViewEntry.{ViewEntry}
use Rattle.command_checks.specs.declared.mapping_entry.MappingEntry.{MappingEntry}

abbrev pub record_of : RecordEntry → Entry Fields
record_of entry = record { name = entry.name; held = schema_fields entry.schema }

abbrev pub mapping_of : MappingEntry → Entry MapTerm
mapping_of entry = record { name = entry.name; held = term_of entry.expr }

abbrev pub view_of : ViewEntry → Entry Table
view_of entry = record { name = entry.name; held = entry.view }

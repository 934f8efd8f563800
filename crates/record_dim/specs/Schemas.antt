-- What a schema is: a record that is fit for a data set.
use Rattle.record_dim.specs.declared.schema.Schema.{Schema}
use Rattle.record_dim.specs.Trees.{Fields, fields_of}

-- the fields of the record
abbrev pub schema_fields : Schema → Fields
schema_fields schema = fields_of schema.fields

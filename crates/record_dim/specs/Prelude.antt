-- What other crates take of this one.
pub use Rattle.record_dim.specs.Inner.Codes.{apart, coded_path, coded_text, head, tail}
pub use Rattle.record_dim.specs.LeafTypes.{IsDeclared, IsIn, greatest_in, greatest_of, is_signed, kind_number, least_in, least_of, width_of}
pub use Rattle.record_dim.specs.Leaves.{Leaf, has_names, has_twice, kinds_of, leaves, leaves_of, lengths_below, lengths_of, names_of, paths_of, record_fault, records_below, records_of, texts_of}
pub use Rattle.record_dim.specs.NameBytesLaws.{both, name_utf8, same_text, text_self}
pub use Rattle.record_dim.specs.Names.{begins_name, continues_name, is_name, is_word}
pub use Rattle.record_dim.specs.Nodes.{IsUnder, is_under, leaves_before, node_of}
pub use Rattle.record_dim.specs.Paths.{BeginsWithName, first_text, path_text_of, step_text}
pub use Rattle.record_dim.specs.Schemas.{schema_fields}
pub use Rattle.record_dim.specs.Trees.{Array, End, Field, Fields, IsRecord, Record, Single, Tree, fields_of, tree_of}

-- The lemmas of this crate that answers cite.
pub use Rattle.llama_c.proofs.Imports.{length, on_box, gathered, reads_signed, rules, Ok, ◌∙◌, SFits, w32, to_z-of_z, view_line, printed, record_line, file_told, is_do, is_kernel, after_relaid, relaid, done_of, after_return, returned, loaded, described, opened_told}
pub use Rattle.llama_c.proofs.Held.{numbers_given, none_put, none_line, none_done, made_told}

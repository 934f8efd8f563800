-- What the proofs of this crate speak of.
pub use Rattle.std.proofs.Common.{◌≡◌, ℕ, ◌+◌, ◌-◌, ◌<◌, ◌≤◌, List, [], take, drop, length, Option, ap, ◌∙◌, arith, length-drop, ◌++◌, append_assoc, Some, None, IfSome, IsSomeAnd, refl, length-append, IsErr, rules, ◌^◌, ℤ, FitsSigned, flat_map}
pub use Rattle.std.proofs.Math.Seq.{take-add}
pub use Rattle.std.proofs.lemmas.List.{take_rest, take_all, length-take-le, take-append-drop}
pub use Rattle.layout_io.specs.Writing.{with_bytes, Wrote, Stopped}
pub use Rattle.layout_io.specs.WritingLaws.{Wrote-append, Stopped-front, Writes-err, Stopped-flat_map}
pub use Rattle.layout_io.specs.Gathering.{Gathers, HasPut}
pub use Rattle.layout_io.specs.GatheringLaws.{Gathers-append, Gathers-written, Gathers-trans, GathersOrStops-err, Stopped-gathered, Puts-loop_err}
pub use Rattle.std.specs.Prelude.{⊤}
pub use Rattle.layout_io.specs.Files.{File, file_named, HasFile, Reads}
pub use Rattle.layout_io.specs.Inner.ShelfEntries.{files_in}
pub use Rattle.layout_io.specs.DecimalLaws.{decimal-digits_text, signed_decimal-decimal_text}
pub use Rattle.std.proofs.lemmas.Grind.{common_steps}
pub use Rattle.std.specs.Int.{w128}
pub use Rattle.std.specs.Fmt.{signed_decimal}
pub use Rattle.std.proofs.lemmas.Int.{to_z-of_z}
pub use lib.Signed.{mag}
pub use Rattle.layout_io.specs.Inner.Parts.{text_of_part}

-- What other crates take of this one.
pub use Rattle.layout_io.specs.Decimal.{decimal_text}
unfoldable pub use Rattle.layout_io.specs.Decimal.{digits_text}
pub use Rattle.layout_io.specs.DecimalLaws.{decimal-digits_text, signed_decimal-decimal_text}
pub use Rattle.layout_io.specs.Faults.{Rose}
pub use Rattle.layout_io.specs.Files.{File, HasFile, IsMissing, Reads, file_named}
pub use Rattle.layout_io.specs.Gathering.{Gathers, HasPut, Puts}
pub use Rattle.layout_io.specs.GatheringLaws.{Gathers-start, Gathers-written, Puts-append, Puts-loop_err, Puts-loop_ok, Puts-second, Puts-stop, Puts-stopped, Writes-puts, Writes-puts_err}
pub use Rattle.layout_io.specs.Inner.Parts.{text_of_part}
pub use Rattle.layout_io.specs.Writing.{Stopped, Writes, Wrote, joined, with_bytes}
pub use Rattle.layout_io.specs.WritingLaws.{Stopped-first, Stopped-flat_map, Stopped-front, Stopped-second, Writes-err, Writes-last, Wrote-append, Wrote-nil, flat_map_push, take_past}
pub use Rattle.layout_io.specs.WritingLaws.{with_bytes-append, with_bytes-nil}

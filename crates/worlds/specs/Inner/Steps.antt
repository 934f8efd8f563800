-- What the end of a run at a line says of the line.
use Rattle.worlds.specs.Imports.{Some}
use Rattle.worlds.specs.Answers.{Ending, Refuses, Unread, Breaks, Starves}
use Rattle.worlds.specs.declared.fold.LineEnd.{LineEnd}
use Rattle.worlds.specs.declared.fold.LineEnd.TheVariants as line

abbrev pub ending_of : LineEnd → Ending
ending_of (line.Command fault) = Refuses fault
ending_of (line.Source name) = Unread (Some name)
ending_of line.Sink = Breaks
ending_of line.NoMemory = Starves

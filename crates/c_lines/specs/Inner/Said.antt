-- What is said of a refusal, as its words.
use Rattle.c_lines.specs.Imports.{ℕ, List, fault_words}
use Rattle.c_lines.specs.declared.messages.Said.{Said}
use Rattle.c_lines.specs.declared.messages.Said.TheVariants as said

abbrev pub said_words : Said → List ℕ
said_words (said.Word word) = word.now
said_words (said.Fault fault) = fault_words fault

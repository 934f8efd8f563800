-- What an adviser may be asked.
use Rattle.std.specs.Prelude.{ℕ, ◌≡◌, ◌≤◌, All, length, map, None, true}
use Rattle.command_checks.specs.Imports.{bad_granule, term_of}
use Rattle.worlds.specs.Advise as advise
use Rattle.command_checks.specs.Inner.Bases.{is_nameless}
use Rattle.command_checks.specs.declared.advices.Question.{Question}

abbrev pub question_of : Question → advise.Question
question_of question = record { passes = question.passes; terms = map term_of question.exprs }

-- granules of so many bytes, at most 16 passes, and at most 16 expressions without names
pub record IsQuestion (granule : ℕ) (question : Question) : Type 0 where
  pub grain : bad_granule granule ≡ None
  pub passes : length question.passes ≤ 16
  pub exprs : length question.exprs ≤ 16
  pub nameless : All (λ expr. is_nameless (term_of expr) ≡ true) question.exprs

-- The lemmas that the search tries at goals with no answer of their own.
use Rattle.schema_lang.proofs.Imports.{cases_Bool, file_name_utf8, length, name_utf8}
use Rattle.schema_lang.proofs.LineLaws.{stopped_line}
use Rattle.schema_lang.proofs.SpellingLaws.{spots_spelled, token_spelled}
use Rattle.schema_lang.proofs.VersionLaws.{blank_is, no_first}
use Rattle.schema_lang.proofs.Whole.{read_whole}
use Rattle.std.proofs.lemmas.Grind.{common_steps}

pub ruleset steps = (common_steps, cases_Bool, file_name_utf8, length, name_utf8, stopped_line, spots_spelled, token_spelled, blank_is, no_first, read_whole)

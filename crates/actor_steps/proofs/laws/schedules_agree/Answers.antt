use Rattle.actor_steps.specs.AgreeLaws.{schedules_agree, updated_lawful, rows_read, schedules_keep_padding}
use Rattle.actor_steps.specs.ScheduleLaws.{none_left}
use Rattle.actor_steps.proofs.laws.schedules_agree.Goals as goal

pub returns : goal.returns
returns c = record {
  bytes = schedules_agree;
  left = none_left;
  lawful = λ table filter sets rows lawful plain. updated_lawful table lawful filter sets rows plain;
  read = rows_read;
  padded = schedules_keep_padding;
}

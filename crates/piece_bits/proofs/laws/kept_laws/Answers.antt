use Rattle.piece_bits.specs.KeptLaws as laws
use Rattle.piece_bits.proofs.laws.kept_laws.Goals as goal

pub returns-clause-again : goal.returns-clause-again
returns-clause-again c = laws.kept_again

pub returns-clause-fitting : goal.returns-clause-fitting
returns-clause-fitting c = laws.fitting_kept

pub returns-clause-before : goal.returns-clause-before
returns-clause-before c = laws.kept_declared

pub returns-clause-wide : goal.returns-clause-wide
returns-clause-wide c = laws.wide_kept

pub returns-clause-told : goal.returns-clause-told
returns-clause-told c = laws.own_sign_held

pub returns-clause-bits : goal.returns-clause-bits
returns-clause-bits c = laws.held_digit

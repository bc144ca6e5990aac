use Rattle.decimal_number.proofs.Numbers.{number_takes, number_of-decimal}
use Rattle.decimal_number.proofs.laws.each_number_has_one_word.Goals as goal

pub returns-clause-written : goal.returns-clause-written
returns-clause-written c = λ word n is. let taken = number_takes word n is in (taken.small, taken.text)

pub returns-clause-read : goal.returns-clause-read
returns-clause-read c = number_of-decimal

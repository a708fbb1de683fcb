-- Digits are UTF-8, and `parse` gives their value. Assumes nothing.
use Rattle.std.proofs.Common.{◌≡◌, true, rules}
use Rattle.std.proofs.lemmas.Fmt.{IsAscii-from_digits}
use Rattle.std.proofs.lemmas.Str.{IsUtf8-from_ascii}
use Rattle.std.proofs.lemmas.Str.Parse.{IsNumeralModel, numerals_by_fold, parse_digits}
use Rattle.script.specs.Numbers.{all_digits, value_from, is_number, read_number}
use Rattle.bench_script.proofs.numbers.read_number.Goals as goal

numerals : IsNumeralModel (λ s. all_digits s ≡ true) (value_from 0)
numerals = numerals_by_fold _ (search rules) value_from (search rules)

pub returns-in_err-ok : goal.returns-in_err-ok
returns-in_err-ok c = search (rules, IsUtf8-from_ascii, IsAscii-from_digits, numerals.to)

pub returns : goal.returns
unfolding is_number read_number
returns c = search (rules, parse_digits numerals 32 c.in_ok-ok.field-0.now _ c.parse.ensures.value.0)

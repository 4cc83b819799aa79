use Rattle.std.proofs.Common.{◌≡◌, ◌≤◌, length}
use Rattle.std.specs.Str.{all_ascii_digits}
use Rattle.tt_text.specs.Numbers.{value_on}
use Rattle.tt_text.proofs.numbers.long_number.Given as goal

abbrev pub invariant-loop-digit : goal.invariant-loop-digit
invariant-loop-digit l = record {
  value : value_on l.value l.rest ≡ value_on 0 l.text;
  digits : all_ascii_digits l.rest ≡ all_ascii_digits l.text;
  some : length l.rest ≤ length l.text;
  within : l.value ≤ l.limit;
}

abbrev pub decreases-loop-digit : goal.decreases-loop-digit
decreases-loop-digit l = length l.rest

use Rattle.std.proofs.Common.{◌≡◌, ◌<◌, ◌^◌, drop}
use Rattle.std.specs.Str.{all_ascii_digits}
use Rattle.tt_text.specs.Numbers.{value_on}
use Rattle.tt_text.proofs.numbers.short_number.Given as goal

abbrev pub invariant-loop-byte : goal.invariant-loop-byte
invariant-loop-byte l = record {
  value : value_on l.value (drop l.byte-index l.text) ≡ value_on 0 l.text;
  digits : all_ascii_digits (drop l.byte-index l.text) ≡ all_ascii_digits l.text;
  small : l.value < 10 ^ l.byte-index;
}

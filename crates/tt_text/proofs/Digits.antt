-- Numbers, digit by digit.
use Rattle.std.proofs.Common.{◌≡◌, ℕ, ◌+◌, ◌*◌, ◌-◌, ◌<◌, ◌≤◌, Bool, true, false, ◌&&◌, if◌then◌else◌, leb, ltb, List, [], ◌∷◌, length, Err, refl, sym, ap, ◌∙◌, rules, arith}
use Rattle.std.specs.Char.{is_ascii_digit}
use Rattle.std.specs.Str.{all_ascii_digits}
use Rattle.std.proofs.lemmas.Bool.{lt-ltb, lt-leb}
use Rattle.std.proofs.lemmas.Str.Parse.{IsNumeralModel, numerals_by_fold}
use Rattle.tt_text.specs.declared.numbers.NumberFault.TheVariants.{NotANumber, TooLarge}
use Rattle.tt_text.specs.Numbers.{value_on, number_of}

pub own : IsNumeralModel (λ ds. all_ascii_digits ds ≡ true) (value_on 0)
own = numerals_by_fold _ (search rules) value_on (search rules)

-- appending digits makes a number no smaller
pub le-value_on : (n : ℕ) (ds : List ℕ) → n ≤ value_on n ds
le-value_on n [] = omega arith
le-value_on n (d ∷ ds) = omega (arith, le-value_on (10 * n + (d - 48)) ds)

-- digits that pass the limit are refused; the bytes after them determine the fault
pub refused_digits : (limit n d : ℕ) (text rest ds : List ℕ) → rest ≡ d ∷ ds → value_on n rest ≡ value_on 0 text
    → all_ascii_digits rest ≡ all_ascii_digits text → length rest ≤ length text → is_ascii_digit d ≡ true → limit < 10 * n + (d - 48)
    → Err (if all_ascii_digits ds then TooLarge else NotANumber) ≡ number_of limit text
unfolding number_of
refused_digits limit n d text rest ds is value digits some digit above = on (all_ascii_digits ds) refl
  where
    first : all_ascii_digits ds ≡ all_ascii_digits text
    first = ap (λ (b : Bool). b && all_ascii_digits ds) (sym digit) ∙ ap all_ascii_digits (sym is) ∙ digits

    some_digit : ltb 0 (length text) ≡ true
    some_digit = lt-ltb 0 (length text) (omega (arith, some, ap length is))

    same : value_on (10 * n + (d - 48)) ds ≡ value_on 0 text
    same = ap (value_on n) (sym is) ∙ value

    on : (b : Bool) → all_ascii_digits ds ≡ b → Err (if b then TooLarge else NotANumber) ≡ number_of limit text
    on true e =
        let more = le-value_on (10 * n + (d - 48)) ds in
        let no : leb (value_on 0 text) limit ≡ false = lt-leb _ _ (omega (arith, more, same, above)) in
        rw (some_digit, sym first ∙ e, no) refl
    on false e = rw (some_digit, sym first ∙ e) refl

-- The offsets of the tokens of a line are within it.
use Rattle.std.proofs.Common.{◌≡◌, ℕ, ◌+◌, ◌<◌, ◌≤◌, List, [], ◌∷◌, ◌++◌, length, sym, ap, ◌∙◌, arith, length-append}
use Rattle.std.specs.Prelude.{◌^◌}
use Rattle.std.specs.List.{AllByRecursion}
use Rattle.std.proofs.lemmas.List.Elements.{All-nil, All-head, All-tail, All-same, All-weaker, All-from_recursion}
use Rattle.tt_text.specs.Tokens.{Placed, tokens_of}
use Rattle.tt_text.specs.Places.{HasTokens}
use Rattle.tt_text.proofs.Places.{read_are_tokens}
use Rattle.tt_wishes.specs.Inner.Offsets.{AreInText}

-- tokens of bytes that begin at an offset
starts_within : (at : ℕ) (bytes : List ℕ) (ts : List Placed) → HasTokens at bytes ts
    → AllByRecursion (λ t. t.at ≤ at + length bytes) ts
starts_within at bytes [] h = tt
starts_within at bytes (t ∷ ts) h =
    let first = h.1 in
    let front : length bytes ≡ length first.gap + (length t.text + length h.0) =
    ap length first.whole ∙ length-append first.gap (t.text ++ h.0) ∙ ap (λ n. length first.gap + n) (length-append t.text h.0) in
    let here : t.at ≤ at + length bytes = omega (arith, first.offset, front) in
    let same : t.at + length t.text + length h.0 ≡ at + length bytes = omega (arith, first.offset, front) in (
      here,
      subst_bound (t.at + length t.text + length h.0) (at + length bytes) ts same
          (starts_within (t.at + length t.text) h.0 ts h.2),
    )
  where
    subst_bound : (m n : ℕ) (us : List Placed) → m ≡ n → AllByRecursion (λ u. u.at ≤ m) us → AllByRecursion (λ u. u.at ≤ n) us
    subst_bound m n [] e a = tt
    subst_bound m n (u ∷ us) e a = (omega (arith, e, a.0), subst_bound m n us e a.1)

-- the tokens of a line that ends at an offset of 64 bits
pub line_in_text : (at : ℕ) (line : List ℕ) → at + length line < 2 ^ 64 → AreInText at (tokens_of line)
line_in_text at line h =
    All-weaker (λ t. t.at ≤ 0 + length line) (λ t. at + t.at < 2 ^ 64) (λ t le. omega (arith, h, le)) (tokens_of line)
    (All-from_recursion (λ t. t.at ≤ 0 + length line) (tokens_of line) (starts_within 0 line (tokens_of line) (read_are_tokens line)))

-- the first token, and those after it
pub first_in_text : (at n : ℕ) (text : List ℕ) (ts more : List Placed) → ts ≡ record { text = text; at = n } ∷ more → AreInText at ts
    → at + n < 2 ^ 64
first_in_text at n text ts more split h =
    All-head (λ u. at + u.at < 2 ^ 64) (record { text = text; at = n }) more
    (All-same (λ u. at + u.at < 2 ^ 64) (record { text = text; at = n } ∷ more) ts (sym split) h)

pub more_in_text : (at : ℕ) (ts : List Placed) (t : Placed) (more : List Placed) → ts ≡ t ∷ more → AreInText at ts → AreInText at more
more_in_text at ts t more split h =
    All-tail (λ u. at + u.at < 2 ^ 64) t more (All-same (λ u. at + u.at < 2 ^ 64) (t ∷ more) ts (sym split) h)

pub none_in_text : (at : ℕ) (ts : List Placed) → ts ≡ [] → AreInText at ts
none_in_text at ts none = All-same (λ u. at + u.at < 2 ^ 64) ts [] none (All-nil (λ u. at + u.at < 2 ^ 64))

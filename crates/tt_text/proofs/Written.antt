-- A token written before a separator is read back.
use Rattle.std.proofs.Common.{◌≡◌, ℕ, ◌+◌, true, false, List, [], ◌∷◌, ◌++◌, length, refl, ap, ◌∙◌, arith}
use Rattle.std.specs.List.{prefix_len, list_all}
use Rattle.std.proofs.lemmas.List.{take_at, drop_at}
use Rattle.tt_text.specs.Tokens.{is_separator, in_token, tokens_from, IsToken}
use Rattle.tt_text.proofs.Runs.{tokens-begins}
use Rattle.std.proofs.lemmas.Bool.{and_parts}

prefix-token : (text rest : List ℕ) (s : ℕ) → list_all in_token text ≡ true → is_separator s ≡ true
    → prefix_len in_token (text ++ s ∷ rest) ≡ length text
prefix-token [] rest s all sep = rw sep refl
prefix-token (b ∷ bs) rest s all sep =
    let h = and_parts (in_token b) (list_all in_token bs) all in
    rw h.0 (ap (λ (n : ℕ). 1 + n) (prefix-token bs rest s h.1 sep) ∙ omega arith)

pub after_separator : (at : ℕ) (s : ℕ) (rest : List ℕ) → is_separator s ≡ true → tokens_from false at (s ∷ rest) ≡ tokens_from false
    (at + 1) rest
unfolding tokens_from
after_separator at s rest sep = rw sep refl

pub tokens-written : (at : ℕ) (text rest : List ℕ) (s : ℕ) → IsToken text → is_separator s ≡ true
    → tokens_from false at (text ++ s ∷ rest) ≡ record { text = text; at = at } ∷ tokens_from false (at + length text + 1) rest
tokens-written at text rest s token sep =
    let len = prefix-token text rest s token.within sep in
    let begun = tokens-begins at (text ++ s ∷ rest) (omega (arith, len, token.some)) in
    begun ∙ rw (
      len,
      take_at text (s ∷ rest) (length text) refl,
      drop_at text (s ∷ rest) (length text) refl,
      after_separator (at + length text) s rest sep,
    ) refl

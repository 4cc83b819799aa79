-- The tokens read from left to right are exactly the tokens of the text.
use Rattle.std.proofs.Common.{◌≡◌, ℕ, zero, suc, ◌+◌, ◌<◌, ◌≤◌, Bool, true, false, List, [], ◌∷◌, ◌++◌, length, take, drop, refl, sym, ap, subst, ◌∙◌, add-zero, append-nil, arith}
use Rattle.std.specs.List.{prefix_len, list_all}
use Rattle.std.proofs.lemmas.Bool.{and_parts}
use Rattle.std.proofs.lemmas.List.{take-append-drop, take_all, drop_all, length-drop}
use Rattle.std.proofs.lemmas.List.Folds.{length-prefix_len}
use Rattle.tt_text.specs.Tokens.{is_separator, in_token, Placed, tokens_from, tokens_of, IsToken}
use Rattle.tt_text.specs.Places.{IsApart, IsFirst, HasTokens}
use Rattle.tt_text.proofs.Runs.{tokens-begins, tokens-some, run_passes, is_a_token, ended}
use Rattle.tt_text.proofs.Written.{after_separator, tokens-written}

-- -- each token of a text is read

pub over_gap : (at : ℕ) (gap rest : List ℕ) → list_all is_separator gap ≡ true → tokens_from false at (gap ++ rest) ≡ tokens_from false
    (at + length gap) rest
over_gap at [] rest all = ap (λ (n : ℕ). tokens_from false n rest) (sym (add-zero at))
over_gap at (s ∷ gap) rest all =
    let h = and_parts (is_separator s) (list_all is_separator gap) all in
    let same : at + 1 + length gap ≡ at + suc (length gap) = omega arith in
    after_separator at s (gap ++ rest) h.0 ∙ over_gap (at + 1) gap rest h.1 ∙ ap (λ (n : ℕ). tokens_from false n rest) same

pub nothing_more : (at : ℕ) → tokens_from false at [] ≡ []
unfolding tokens_from
nothing_more at = refl

only_gap : (at : ℕ) (gap : List ℕ) → list_all is_separator gap ≡ true → tokens_from false at gap ≡ []
only_gap at gap all = ap (tokens_from false at) (sym (append-nil gap)) ∙ over_gap at gap [] all ∙ nothing_more (at + length gap)

pub all_run : (text : List ℕ) → list_all in_token text ≡ true → prefix_len in_token text ≡ length text
all_run [] all = refl
all_run (b ∷ bs) all =
    let h = and_parts (in_token b) (list_all in_token bs) all in
    rw h.0 (ap (λ (n : ℕ). 1 + n) (all_run bs h.1) ∙ omega arith)

-- a token at the end or before a separator
first_token : (at : ℕ) (text back : List ℕ) → IsToken text → IsApart back → tokens_from false at (text ++ back) ≡ record
    { text = text; at = at } ∷ tokens_from false (at + length text) back
first_token at text (s ∷ rest) token apart =
    tokens-written at text rest s token apart ∙ ap (λ (ts : List Placed). record { text = text; at = at } ∷ ts)
    (sym (after_separator (at + length text) s rest apart))
first_token at text [] token apart =
    let len = all_run text token.within in
    let begun = tokens-begins at text (omega (arith, len, token.some)) in
    ap (tokens_from false at) (append-nil text) ∙ begun
    ∙ rw (len, take_all (length text) text (omega arith), drop_all (length text) text (omega arith)) refl

pub tokens_are_read : (at : ℕ) (bytes : List ℕ) (ts : List Placed) → HasTokens at bytes ts → tokens_from false at bytes ≡ ts
tokens_are_read at bytes [] h = only_gap at bytes h
tokens_are_read at bytes (t ∷ ts) h =
    let s = h.1 in
    let behind = tokens_are_read (t.at + length t.text) h.0 ts h.2 in
    ap (tokens_from false at) s.whole ∙ over_gap at s.gap (t.text ++ h.0) s.separators
    ∙ ap (λ (n : ℕ). tokens_from false n (t.text ++ h.0)) (sym s.offset)
    ∙ first_token t.at t.text h.0 s.token s.apart ∙ ap (λ (us : List Placed). t ∷ us) behind

-- -- each token read is one of the text

-- after a run comes the end or a byte that is not part of it
after_run : (bs : List ℕ) → IsApart (drop (prefix_len in_token bs) bs)
after_run [] = tt
after_run (b ∷ bs) = by_test (is_separator b) refl (after_run bs)
  where
    by_test : (v : Bool) → is_separator b ≡ v → IsApart (drop (prefix_len in_token bs) bs)
        → IsApart (drop (prefix_len in_token (b ∷ bs)) (b ∷ bs))
    by_test true e rest = let none : prefix_len in_token (b ∷ bs) ≡ 0 = rw e refl in subst (λ (n : ℕ). IsApart (drop n (b ∷ bs)))
        (sym none) e
    by_test false e rest =
        let more : prefix_len in_token (b ∷ bs) ≡ suc (prefix_len in_token bs) = rw e (omega arith) in
        subst (λ (n : ℕ). IsApart (drop n (b ∷ bs))) (sym more) rest

-- only separators
no_token : (at : ℕ) (bytes : List ℕ) → prefix_len in_token (drop (prefix_len is_separator bytes) bytes) ≡ 0
    → HasTokens at bytes (tokens_from false at bytes)
no_token at bytes none =
    let nothing = ended bytes none in
    let whole : take (prefix_len is_separator bytes) bytes ≡ bytes =
    sym (append-nil (take (prefix_len is_separator bytes) bytes)) ∙ ap (λ (l : List ℕ). take (prefix_len is_separator bytes) bytes ++ l)
    (sym nothing) ∙ take-append-drop (prefix_len is_separator bytes) bytes in
    let all : list_all is_separator bytes ≡ true = ap (list_all is_separator) (sym whole) ∙ run_passes is_separator bytes in
    subst (HasTokens at bytes) (sym (only_gap at bytes all)) all

-- separators and a token
one_token : (at : ℕ) (bytes begun text rest : List ℕ) → begun ≡ drop (prefix_len is_separator bytes) bytes
    → text ≡ take (prefix_len in_token begun) begun → rest ≡ drop (prefix_len in_token begun) begun → 0 < prefix_len in_token begun
    → ((from : ℕ) → HasTokens from rest (tokens_from false from rest)) → HasTokens at bytes (tokens_from false at bytes)
one_token at bytes begun text rest begun_is text_is rest_is some more =
    let gap : List ℕ = take (prefix_len is_separator bytes) bytes in
    let gap_len : length gap ≡ prefix_len is_separator bytes = length-prefix_len is_separator bytes in
    let len : length text ≡ prefix_len in_token begun = ap length text_is ∙ length-prefix_len in_token begun in
    let made : Placed = record { text = text; at = at + prefix_len is_separator bytes } in
    let read : tokens_from false at bytes ≡ made ∷ tokens_from false (made.at + length text) rest =
    tokens-some at (prefix_len is_separator bytes) (prefix_len in_token begun) bytes begun text rest begun_is refl refl text_is rest_is some
    ∙ ap (λ (n : ℕ). made ∷ tokens_from false (made.at + n) rest) (sym len) in
    let first : IsFirst at bytes made rest = record {
      gap = gap;
      whole = sym (take-append-drop (prefix_len is_separator bytes) bytes)
          ∙ ap (λ (l : List ℕ). gap ++ l) (sym begun_is ∙ sym (take-append-drop (prefix_len in_token begun) begun)
          ∙ rw (text_is, rest_is) refl);
      separators = run_passes is_separator bytes;
      token = is_a_token (prefix_len in_token begun) begun text refl text_is some;
      offset = ap (λ (n : ℕ). at + n) (sym gap_len);
      apart = subst IsApart (sym rest_is) (after_run begun);
    } in
    subst (HasTokens at bytes) (sym read) (rest, first, more (made.at + length text))

-- the text, given that the property holds of shorter ones
one_more : (at fuel : ℕ) (bytes : List ℕ) → length bytes ≤ suc fuel
    → ((rest : List ℕ) → length rest ≤ fuel → (from : ℕ) → HasTokens from rest (tokens_from false from rest))
    → HasTokens at bytes (tokens_from false at bytes)
one_more at fuel bytes h shorter = by_len (prefix_len in_token (drop (prefix_len is_separator bytes) bytes)) refl
  where
    by_len : (n : ℕ) → prefix_len in_token (drop (prefix_len is_separator bytes) bytes) ≡ n
        → HasTokens at bytes (tokens_from false at bytes)
    by_len zero e = no_token at bytes e
    by_len (suc n) e =
        let begun : List ℕ = drop (prefix_len is_separator bytes) bytes in
        let rest : List ℕ = drop (prefix_len in_token begun) begun in
        let less : length rest ≤ fuel = omega (
          arith,
          h,
          e,
          length-drop (prefix_len in_token begun) begun,
          length-drop (prefix_len is_separator bytes) bytes,
        ) in
        one_token at bytes begun (take (prefix_len in_token begun) begun) rest refl refl refl (omega (arith, e)) (shorter rest less)

on_length : (fuel : ℕ) (bytes : List ℕ) → length bytes ≤ fuel → (at : ℕ) → HasTokens at bytes (tokens_from false at bytes)
on_length zero [] h at = subst (HasTokens at []) (sym (nothing_more at)) refl
on_length zero (b ∷ bs) h at = absurd (omega (arith, h))
on_length (suc fuel) bytes h at = one_more at fuel bytes h (λ rest less from. on_length fuel rest less from)

pub read_are_tokens : (bytes : List ℕ) → HasTokens 0 bytes (tokens_of bytes)
read_are_tokens bytes = on_length (length bytes) bytes (omega arith) 0

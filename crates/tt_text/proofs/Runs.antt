-- The tokens of a text after a gap and after a token.
use Rattle.std.proofs.Common.{◌≡◌, ℕ, zero, suc, ◌+◌, ◌<◌, Bool, true, false, List, [], ◌∷◌, length, take, drop, refl, sym, ap, ◌∙◌, add-zero, arith}
use Rattle.std.specs.List.{prefix_len, list_all}
use Rattle.std.proofs.lemmas.Bool.{and_from}
use Rattle.std.proofs.lemmas.List.Folds.{length-prefix_len}
use Rattle.tt_text.specs.Tokens.{is_separator, in_token, Placed, tokens_from, IsToken}

gap_step : (at b : ℕ) (bs : List ℕ) (v : Bool) → is_separator b ≡ v
    → tokens_from false (at + 1) bs ≡ tokens_from false ((at + 1) + prefix_len is_separator bs) (drop (prefix_len is_separator bs) bs)
    → tokens_from false at (b ∷ bs) ≡ tokens_from false (at + prefix_len is_separator (b ∷ bs))
    (drop (prefix_len is_separator (b ∷ bs)) (b ∷ bs))
unfolding tokens_from
gap_step at b bs true e more =
    let n : ℕ = prefix_len is_separator bs in
    let k : prefix_len is_separator (b ∷ bs) ≡ suc n = rw e (omega arith) in
    let first : tokens_from false at (b ∷ bs) ≡ tokens_from false (at + 1) bs = rw e refl in
    let same : at + suc n ≡ (at + 1) + n = omega arith in
    first ∙ more ∙ sym (ap (λ (m : ℕ). tokens_from false (at + m) (drop m (b ∷ bs))) k
    ∙ ap (λ (m : ℕ). tokens_from false m (drop n bs)) same)
gap_step at b bs false e more =
    let k : prefix_len is_separator (b ∷ bs) ≡ 0 = rw e refl in
    sym (ap (λ (m : ℕ). tokens_from false (at + m) (drop m (b ∷ bs))) k ∙ ap (λ (m : ℕ). tokens_from false m (b ∷ bs)) (add-zero at))

-- a gap has no token
pub tokens-gap : (at : ℕ) (bs : List ℕ) → tokens_from false at bs ≡ tokens_from false (at + prefix_len is_separator bs)
    (drop (prefix_len is_separator bs) bs)
unfolding tokens_from
tokens-gap at [] = refl
tokens-gap at (b ∷ bs) = gap_step at b bs (is_separator b) refl (tokens-gap (at + 1) bs)

inside_step : (at b : ℕ) (bs : List ℕ) (v : Bool) → is_separator b ≡ v
    → tokens_from true (at + 1) bs ≡ tokens_from false ((at + 1) + prefix_len in_token bs) (drop (prefix_len in_token bs) bs)
    → tokens_from true at (b ∷ bs) ≡ tokens_from false (at + prefix_len in_token (b ∷ bs)) (drop (prefix_len in_token (b ∷ bs)) (b ∷ bs))
unfolding tokens_from
inside_step at b bs false e more =
    let n : ℕ = prefix_len in_token bs in
    let k : prefix_len in_token (b ∷ bs) ≡ suc n = rw e (omega arith) in
    let first : tokens_from true at (b ∷ bs) ≡ tokens_from true (at + 1) bs = rw e refl in
    let same : at + suc n ≡ (at + 1) + n = omega arith in
    first ∙ more ∙ sym (ap (λ (m : ℕ). tokens_from false (at + m) (drop m (b ∷ bs))) k
    ∙ ap (λ (m : ℕ). tokens_from false m (drop n bs)) same)
inside_step at b bs true e more =
    let k : prefix_len in_token (b ∷ bs) ≡ 0 = rw e refl in
    let first : tokens_from true at (b ∷ bs) ≡ tokens_from false at (b ∷ bs) = rw e refl in
    first ∙ sym (ap (λ (m : ℕ). tokens_from false (at + m) (drop m (b ∷ bs))) k ∙ ap (λ (m : ℕ). tokens_from false m (b ∷ bs))
    (add-zero at))

-- the rest of a token that has begun
pub tokens-inside : (at : ℕ) (bs : List ℕ) → tokens_from true at bs ≡ tokens_from false (at + prefix_len in_token bs)
    (drop (prefix_len in_token bs) bs)
unfolding tokens_from
tokens-inside at [] = refl
tokens-inside at (b ∷ bs) = inside_step at b bs (is_separator b) refl (tokens-inside (at + 1) bs)

-- the token that begins at the first byte, and the bytes after it
begins_step : (at b : ℕ) (bs : List ℕ) (v : Bool) → is_separator b ≡ v → 0 < prefix_len in_token (b ∷ bs)
    → tokens_from false at (b ∷ bs) ≡ record { text = take (prefix_len in_token (b ∷ bs)) (b ∷ bs); at = at } ∷ tokens_from false
    (at + prefix_len in_token (b ∷ bs)) (drop (prefix_len in_token (b ∷ bs)) (b ∷ bs))
unfolding tokens_from
begins_step at b bs true e some = let k : prefix_len in_token (b ∷ bs) ≡ 0 = rw e refl in absurd (omega (arith, k, some))
begins_step at b bs false e some =
    let made : Placed = record { text = take (prefix_len in_token (b ∷ bs)) (b ∷ bs); at = at } in
    let first : tokens_from false at (b ∷ bs) ≡ made ∷ tokens_from true (at + 1) bs = rw e refl in
    let again : tokens_from true at (b ∷ bs) ≡ tokens_from true (at + 1) bs = rw e refl in
    first ∙ ap (λ (ts : List Placed). made ∷ ts) (sym again ∙ tokens-inside at (b ∷ bs))

pub tokens-begins : (at : ℕ) (bs : List ℕ) → 0 < prefix_len in_token bs
    → tokens_from false at bs ≡ record { text = take (prefix_len in_token bs) bs; at = at } ∷ tokens_from false
    (at + prefix_len in_token bs) (drop (prefix_len in_token bs) bs)
tokens-begins at [] some = absurd (omega (arith, some))
tokens-begins at (b ∷ bs) some = begins_step at b bs (is_separator b) refl some

ended_step : (b : ℕ) (bs : List ℕ) (v : Bool) → is_separator b ≡ v
    → (prefix_len in_token (drop (prefix_len is_separator bs) bs) ≡ 0 → drop (prefix_len is_separator bs) bs ≡ [])
    → prefix_len in_token (drop (prefix_len is_separator (b ∷ bs)) (b ∷ bs)) ≡ 0 → drop (prefix_len is_separator (b ∷ bs)) (b ∷ bs) ≡ []
ended_step b bs true e more none =
    let k : prefix_len is_separator (b ∷ bs) ≡ suc (prefix_len is_separator bs) = rw e (omega arith) in
    let same : drop (prefix_len is_separator (b ∷ bs)) (b ∷ bs) ≡ drop (prefix_len is_separator bs) bs =
    ap (λ (m : ℕ). drop m (b ∷ bs)) k in
    same ∙ more (ap (prefix_len in_token) (sym same) ∙ none)
ended_step b bs false e more none =
    let k : prefix_len is_separator (b ∷ bs) ≡ 0 = rw e refl in
    let same : drop (prefix_len is_separator (b ∷ bs)) (b ∷ bs) ≡ b ∷ bs = ap (λ (m : ℕ). drop m (b ∷ bs)) k in
    let one : prefix_len in_token (b ∷ bs) ≡ 1 + prefix_len in_token bs = rw e refl in
    let nothing : prefix_len in_token (b ∷ bs) ≡ 0 = ap (prefix_len in_token) (sym same) ∙ none in
    absurd (omega (arith, one, nothing))

-- if no token comes after a gap, the text is at its end
pub ended : (bs : List ℕ) → prefix_len in_token (drop (prefix_len is_separator bs) bs) ≡ 0 → drop (prefix_len is_separator bs) bs ≡ []
ended [] none = refl
ended (b ∷ bs) none = ended_step b bs (is_separator b) refl (ended bs) none

nothing_left : (n m : ℕ) → tokens_from false n (drop m []) ≡ []
unfolding tokens_from
nothing_left n zero = refl
nothing_left n (suc m) = refl

-- no token is left
pub tokens-none : (at gap len : ℕ) (bs begun rest : List ℕ) → begun ≡ drop gap bs → gap ≡ prefix_len is_separator bs
    → len ≡ prefix_len in_token begun
    → rest ≡ drop len begun → len ≡ 0 → (tokens_from false at bs ≡ []) × (tokens_from false (at + gap + len) rest ≡ [])
unfolding tokens_from
tokens-none at gap len bs begun rest begun_is gap_is len_is rest_is none =
    let is : begun ≡ drop (prefix_len is_separator bs) bs = begun_is ∙ ap (λ (m : ℕ). drop m bs) gap_is in
    let end : begun ≡ [] = is ∙ ended bs (ap (prefix_len in_token) (sym is) ∙ sym len_is ∙ none) in (
      tokens-gap at bs ∙ ap (tokens_from false (at + prefix_len is_separator bs)) (sym is ∙ end),
      ap (tokens_from false (at + gap + len)) (rest_is ∙ ap (drop len) end) ∙ nothing_left (at + gap + len) len,
    )

-- a token comes next
pub tokens-some : (at gap len : ℕ) (bs begun text rest : List ℕ) → begun ≡ drop gap bs → gap ≡ prefix_len is_separator bs
    → len ≡ prefix_len in_token begun
    → text ≡ take len begun → rest ≡ drop len begun → 0 < len
    → tokens_from false at bs ≡ record { text = text; at = at + gap } ∷ tokens_from false (at + gap + len) rest
tokens-some at gap len bs begun text rest begun_is gap_is len_is text_is rest_is some =
    let is : begun ≡ drop (prefix_len is_separator bs) bs = begun_is ∙ ap (λ (m : ℕ). drop m bs) gap_is in
    let first : tokens_from false at bs ≡ tokens_from false (at + gap) begun = tokens-gap at bs
    ∙ ap (tokens_from false (at + prefix_len is_separator bs)) (sym is) ∙ ap (λ (m : ℕ). tokens_from false (at + m) begun)
    (sym gap_is) in
    let second = tokens-begins (at + gap) begun (omega (arith, len_is, some)) in
    let with_len : tokens_from false (at + gap) begun ≡ record { text = take len begun; at = at + gap } ∷ tokens_from false
    (at + gap + len) (drop len begun) = rw len_is second in
    first ∙ with_len ∙ rw (text_is, rest_is) refl

pub run_passes : (p : ℕ → Bool) (xs : List ℕ) → list_all p (take (prefix_len p xs) xs) ≡ true
run_passes p [] = refl
run_passes p (x ∷ xs) = by_test (p x) refl (run_passes p xs)
  where
    by_test : (b : Bool) → p x ≡ b → list_all p (take (prefix_len p xs) xs) ≡ true → list_all p (take (prefix_len p (x ∷ xs)) (x ∷ xs))
        ≡ true
    by_test true e rest =
        let more : prefix_len p (x ∷ xs) ≡ suc (prefix_len p xs) = rw e (omega arith) in
        rw more (and_from (p x) (list_all p (take (prefix_len p xs) xs)) e rest)
    by_test false e rest = let none : prefix_len p (x ∷ xs) ≡ 0 = rw e refl in rw none refl

-- a run of bytes that are not separators is a token
pub is_a_token : (len : ℕ) (begun text : List ℕ) → len ≡ prefix_len in_token begun → text ≡ take len begun → 0 < len → IsToken text
is_a_token len begun text len_is text_is some =
    let whole : text ≡ take (prefix_len in_token begun) begun = text_is ∙ ap (λ (n : ℕ). take n begun) len_is in
    let long : length text ≡ prefix_len in_token begun = ap length whole ∙ length-prefix_len in_token begun in
    record { some = omega arith; within = rw whole (run_passes in_token begun) }

-- The result of a scan at the front of the bytes held, within the limit.
use Rattle.std.proofs.Common.{◌≡◌, ℕ, zero, suc, ◌+◌, ◌<◌, ◌≤◌, Bool, true, false, ltb, List, [], ◌∷◌, ◌++◌, length, take, drop, Some, Ok, Err, refl, sym, ap, subst, ◌∙◌, add-zero, append_assoc, append-nil, length-append, arith}
use Rattle.std.specs.List.{list_all, prefix_len}
use Rattle.std.proofs.lemmas.List.{drop-drop, drop_all, length-drop, take-append-drop, take-append-le, drop-append-le, length-take-le}
use Rattle.std.proofs.lemmas.Bool.{le-ltb, and_parts, not-true}
use Rattle.std.proofs.Math.Seq.{drop-append_seam}
use Rattle.tt_text.specs.Tokens.{is_separator, in_token, Placed}
use Rattle.tt_text.specs.Feeds.{stream_from, ends_before, with_token, stopped}
use Rattle.tt_text.specs.CutShort.{cut_short}
use Rattle.tt_text.specs.Found.{AtGap, IsScan, FindsToken, FindsMore, MayFollow, has_token}
use Rattle.tt_text.specs.declared.feed.FeedFault.TheVariants.{Read, TokenTooLong, TooManyBytes}
use Rattle.tt_text.proofs.Feeding.{while-no, stream-gap, stream-nothing, stream-token, stream-last, stream-long, stream-past}

-- a run whose bytes all pass goes on with the run of the bytes after it
run_of : (p : ℕ → Bool) (xs ys : List ℕ) → list_all p xs ≡ true → prefix_len p (xs ++ ys) ≡ length xs + prefix_len p ys
run_of p [] ys all = omega arith
run_of p (x ∷ xs) ys all = let parts = and_parts (p x) (list_all p xs) all in let more = run_of p xs ys parts.1 in rw parts.0 (omega arith)

no_gap : (t : List ℕ) → list_all in_token t ≡ true → prefix_len is_separator t ≡ 0
no_gap [] all = refl
no_gap (b ∷ t) all = let parts = and_parts (in_token b) (list_all in_token t) all in let e = not-true (is_separator b) parts.0 in rw e refl

whole_partial : (g t : List ℕ) → list_all is_separator g ≡ true → list_all in_token t ≡ true → has_token (g ++ t) ≡ false
whole_partial g t seps token =
    let gap : prefix_len is_separator (g ++ t) ≡ length g = run_of is_separator g t seps ∙ ap (λ (m : ℕ). length g + m) (no_gap t token)
    ∙ add-zero (length g) in
    let back : drop (length g) (g ++ t) ≡ t = drop-append_seam g t in
    let run : prefix_len in_token t ≡ length t = ap (prefix_len in_token) (sym (append-nil t)) ∙ run_of in_token t [] token
    ∙ add-zero (length t) in
    let size : length (g ++ t) ≡ length g + length t = length-append g t in
    ap (λ (m : ℕ). ltb (m + prefix_len in_token (drop m (g ++ t))) (length (g ++ t))) gap
    ∙ ap (λ (l : List ℕ). ltb (length g + prefix_len in_token l) (length (g ++ t))) back
    ∙ le-ltb _ _ (omega arith)

-- the gap, the token and the bytes after them
cut : (w : List ℕ) (gap len : ℕ) → w ≡ take gap w ++ (take len (drop gap w) ++ drop (gap + len) w)
cut w gap len =
    sym (take-append-drop gap w) ∙ ap (λ (l : List ℕ). take gap w ++ l) (sym (take-append-drop len (drop gap w))
    ∙ ap (λ (l : List ℕ). take len (drop gap w) ++ l) (drop-drop len gap w))

after_gap : (most at gap len : ℕ) (w more : List ℕ) → IsScan w gap len → at + length w ≤ most
    → stream_from most at (w ++ more) ≡ stream_from most (at + gap) (take len (drop gap w) ++ (drop (gap + len) w ++ more))
after_gap most at gap len w more scan h =
    let g : List ℕ = take gap w in
    let t : List ℕ = take len (drop gap w) in
    let r : List ℕ = drop (gap + len) w in
    let len_g : length g ≡ gap = length-take-le gap w (omega (arith, scan.within)) in
    let parts : w ++ more ≡ g ++ (t ++ (r ++ more)) =
    ap (λ (l : List ℕ). l ++ more) (cut w gap len) ∙ append_assoc g (t ++ r) more ∙ ap (λ (l : List ℕ). g ++ l) (append_assoc t r more) in
    ap (stream_from most at) parts
    ∙ stream-gap most at g (t ++ (r ++ more)) scan.separators (omega (arith, scan.within))
    ∙ ap (λ (m : ℕ). stream_from most (at + m) (t ++ (r ++ more))) len_g

token_len_is : (w : List ℕ) (gap len : ℕ) → IsScan w gap len → length (take len (drop gap w)) ≡ len
token_len_is w gap len scan = length-take-le len (drop gap w) (omega (arith, scan.within, length-drop gap w))

some_token : (w : List ℕ) (gap len : ℕ) → IsScan w gap len → gap < length w → 0 < len
some_token w gap zero scan h = let e = ap length (scan.begins refl) in absurd (omega (arith, e, length-drop gap w, h))
some_token w gap (suc len) scan h = omega arith

-- a token with a byte after it
pub found_inside : (most at gap len : ℕ) (w more : List ℕ) → IsScan w gap len → len ≤ 32 → gap + len < length w → at + length w ≤ most
    → stream_from most at (w ++ more) ≡ with_token (record { text = take len (drop gap w); at = at + gap })
    (stream_from most (at + gap + len) (drop (gap + len) w ++ more))
found_inside most at gap len w more scan short h below =
    inside_rest (drop (gap + len) w) refl (scan.stops short)
  where
    inside_rest : (r : List ℕ) → drop (gap + len) w ≡ r → AtGap r → stream_from most at (w ++ more) ≡ with_token
        (record { text = take len (drop gap w); at = at + gap }) (stream_from most (at + gap + len) (r ++ more))
    inside_rest [] e g = let n = ap length e in absurd (omega (arith, n, length-drop (gap + len) w, h))
    inside_rest (b ∷ r) e g =
        let t : List ℕ = take len (drop gap w) in
        let n : length t ≡ len = token_len_is w gap len scan in
        let some : 0 < len = some_token w gap len scan (omega arith) in
        let here = stream-token most (at + gap) b t (r ++ more) scan.token (omega arith) (omega arith) (omega arith) g in
        after_gap most at gap len w more scan below
        ∙ ap (λ (l : List ℕ). stream_from most (at + gap) (t ++ (l ++ more))) e
        ∙ here
        ∙ ap (λ (m : ℕ). with_token (record { text = t; at = at + gap }) (stream_from most (at + gap + m) (b ∷ (r ++ more)))) n

-- no byte comes after the gap and the token
all_read : (w : List ℕ) (gap len : ℕ) → length w ≤ gap + len → drop (gap + len) w ≡ []
all_read w gap len h = drop_all (gap + len) w h

pub found_last : (most at gap len : ℕ) (w : List ℕ) → IsScan w gap len → len ≤ 32 → length w ≤ gap + len → 0 < len → at + length w ≤ most
    → stream_from most at w ≡ with_token (record { text = take len (drop gap w); at = at + gap }) (stream_from most (at + gap + len) [])
found_last most at gap len w scan short h some below =
    let t : List ℕ = take len (drop gap w) in
    let n : length t ≡ len = token_len_is w gap len scan in
    let whole : w ≡ w ++ [] = sym (append-nil w) in
    let none : drop (gap + len) w ++ [] ≡ [] = append-nil _ ∙ all_read w gap len h in
    ap (stream_from most at) whole
    ∙ after_gap most at gap len w [] scan below
    ∙ ap (λ (l : List ℕ). stream_from most (at + gap) (t ++ l)) none
    ∙ ap (stream_from most (at + gap)) (append-nil t)
    ∙ stream-last most (at + gap) t scan.token (omega arith) (omega arith) (omega (arith, scan.within))
    ∙ ap (λ (m : ℕ). with_token (record { text = t; at = at + gap }) (stream_from most (at + gap + m) [])) n

pub found_end : (most at gap : ℕ) (w : List ℕ) → IsScan w gap 0 → length w ≤ gap + 0 → at + length w ≤ most
    → stream_from most at w ≡ stopped (Ok (at + length w))
found_end most at gap w scan h below =
    let whole : w ≡ w ++ [] = sym (append-nil w) in
    let none : drop (gap + 0) w ++ [] ≡ [] = append-nil _ ∙ all_read w gap 0 h in
    let same : at + gap ≡ at + length w = omega (arith, scan.within) in
    ap (stream_from most at) whole
    ∙ after_gap most at gap 0 w [] scan below
    ∙ ap (stream_from most (at + gap)) none
    ∙ ap (λ (m : ℕ). stream_from most m []) same
    ∙ stream-nothing most (at + length w)

-- a token of 33 bytes or more
pub found_long : (most at gap len : ℕ) (w more : List ℕ) → IsScan w gap len → 32 < len → at + length w ≤ most
    → stream_from most at (w ++ more) ≡ stopped (Err (TokenTooLong (at + gap)))
found_long most at gap len w more scan long below =
    let t : List ℕ = take len (drop gap w) in
    let n : length t ≡ len = token_len_is w gap len scan in
    after_gap most at gap len w more scan below
    ∙ stream-long most (at + gap) t (drop (gap + len) w ++ more) scan.token (omega (arith, scan.at_most))
    (omega (arith, scan.within, scan.at_most))

-- a byte past the limit
pub found_past : (most at gap len b : ℕ) (w more : List ℕ) → IsScan w gap len → len ≤ 32 → length w ≤ gap + len → at + length w ≡ most
    → stream_from most at (w ++ (b ∷ more)) ≡ stopped (Err TooManyBytes)
found_past most at gap len b w more scan short h here =
    let t : List ℕ = take len (drop gap w) in
    let n : length t ≡ len = token_len_is w gap len scan in
    after_gap most at gap len w (b ∷ more) scan (omega arith)
    ∙ ap (λ (l : List ℕ). stream_from most (at + gap) (t ++ (l ++ (b ∷ more)))) (all_read w gap len h)
    ∙ stream-past most (at + gap) b t more scan.token (omega arith) (omega (arith, scan.within))

-- a gap, after which more bytes must come
pub found_more : (most at gap len : ℕ) (w more : List ℕ) → IsScan w gap len → at + length w ≤ most
    → stream_from most at (w ++ more) ≡ stream_from most (at + gap) (drop gap w ++ more)
found_more most at gap len w more scan below =
    let t : List ℕ = take len (drop gap w) in
    let r : List ℕ = drop (gap + len) w in
    let back : t ++ r ≡ drop gap w = ap (λ (l : List ℕ). t ++ l) (sym (drop-drop len gap w)) ∙ take-append-drop len (drop gap w) in
    after_gap most at gap len w more scan below
    ∙ ap (stream_from most (at + gap)) (sym (append_assoc t r more) ∙ ap (λ (l : List ℕ). l ++ more) back)

-- -- the bytes held: those within the limit, and those past it

pub finds_inside : (at gap len : ℕ) (ended : Bool) (w past : List ℕ) → IsScan w gap len → len ≤ 32 → gap + len < length w
    → at + length w ≤ 4294967295 → FindsToken at (w ++ past) ended gap len
finds_inside at gap len ended w past scan short h below =
    let text : take len (drop gap (w ++ past)) ≡ take len (drop gap w) =
    ap (take len) (drop-append-le gap w past (omega arith)) ∙ take-append-le len (drop gap w) past (omega (arith, length-drop gap w)) in
    let rest : drop (gap + len) (w ++ past) ≡ drop (gap + len) w ++ past = drop-append-le (gap + len) w past (omega arith) in
    record {
      within = omega (arith, length-append w past);
      below = omega arith;
      some = some_token w gap len scan (omega arith);
      followed = λ (e : ended ≡ false). omega (arith, length-append w past);
      given = λ (tail : List ℕ) (m : MayFollow ended tail).
          ap (stream_from 4294967295 at) (append_assoc w past tail)
          ∙ found_inside 4294967295 at gap len w (past ++ tail) scan short h below
          ∙ ap (λ (l : List ℕ). with_token (record { text = l; at = at + gap })
          (stream_from 4294967295 (at + gap + len) (drop (gap + len) w ++ (past ++ tail)))) (sym text)
          ∙ ap (λ (l : List ℕ). with_token (record { text = take len (drop gap (w ++ past)); at = at + gap })
          (stream_from 4294967295 (at + gap + len) l)) (sym (append_assoc (drop (gap + len) w) past tail)
          ∙ ap (λ (l : List ℕ). l ++ tail) (sym rest));
    }

pub finds_last : (at gap len : ℕ) (ended : Bool) (w : List ℕ) → IsScan w gap len → len ≤ 32 → length w ≤ gap + len → 0 < len
    → ended ≡ true → at + length w ≤ 4294967295 → FindsToken at w ended gap len
finds_last at gap len ended w scan short h some e below =
    record {
      within = scan.within;
      below = omega (arith, scan.within);
      some = some;
      followed = λ (no : ended ≡ false). absurd (let h : true ≡ false = sym e ∙ no in cc);
      given = λ (tail : List ℕ) (m : MayFollow ended tail).
          ap (λ (l : List ℕ). stream_from 4294967295 at (w ++ l)) (m e) ∙ ap (stream_from 4294967295 at) (append-nil w)
          ∙ found_last 4294967295 at gap len w scan short h some below
          ∙ ap (λ (l : List ℕ). with_token (record { text = take len (drop gap w); at = at + gap })
          (stream_from 4294967295 (at + gap + len) l))
          (sym (ap (λ (l : List ℕ). drop (gap + len) w ++ l) (m e) ∙ append-nil _ ∙ all_read w gap len h));
    }

-- no byte comes after the token
partial_of : (w : List ℕ) (gap len : ℕ) → IsScan w gap len → length w ≤ gap + len → has_token w ≡ false
partial_of w gap len scan h =
    let g : List ℕ = take gap w in
    let t : List ℕ = take len (drop gap w) in
    let r = all_read w gap len h in
    let parts : w ≡ g ++ t = cut w gap len ∙ ap (λ (l : List ℕ). g ++ (t ++ l)) r ∙ ap (λ (l : List ℕ). g ++ l) (append-nil t) in
    ap has_token parts ∙ whole_partial g t scan.separators scan.token

-- a token at the end of the bytes read is still open
found_open : (at gap len : ℕ) (w : List ℕ) → IsScan w gap len → len ≤ 32 → length w ≤ gap + len → at + length w ≤ 4294967295
    → cut_short (stream_from 4294967295 at w) ≡ stopped (Err Read)
found_open at gap zero w scan short h below = ap cut_short (found_end 4294967295 at gap w scan h below)
found_open at gap (suc len) w scan short h below =
    let t : List ℕ = take (suc len) (drop gap w) in
    let n : length t ≡ suc len = token_len_is w gap (suc len) scan in
    let last = found_last 4294967295 at gap (suc len) w scan short h (omega arith) below
    ∙ ap (with_token (record { text = t; at = at + gap })) (stream-nothing 4294967295 (at + gap + suc len)) in
    let open_end : ltb ((at + gap) + length t) (at + gap + suc len) ≡ false = le-ltb _ _ (omega arith) in
    ap cut_short last
    ∙ ap (λ (ts : List Placed). record { tokens = ts; stop = Err Read })
    (while-no (ends_before (Some (record { byte = at + gap + suc len; fault = Read }))) (record { text = t; at = at + gap }) [] open_end)

pub finds_more : (at gap len : ℕ) (ended : Bool) (w : List ℕ) → IsScan w gap len → len ≤ 32 → length w ≤ gap + len → ended ≡ false
    → at + length w ≤ 4294967295 → FindsMore at w ended gap
finds_more at gap len ended w scan short h e below =
    record {
      within = omega (arith, scan.within);
      at_most = omega arith;
      below = below;
      partial = partial_of w gap len scan h;
      goes_on = e;
      same = λ (tail : List ℕ). found_more 4294967295 at gap len w tail scan below;
      open_token = found_open at gap len w scan short h below;
    }

pub held_long : (at gap len : ℕ) (ended : Bool) (held w past : List ℕ) → held ≡ w ++ past → IsScan w gap len → 32 < len
    → at + length w ≤ 4294967295
    → (tail : List ℕ) → MayFollow ended tail → stream_from 4294967295 at (held ++ tail) ≡ stopped (Err (TokenTooLong (at + gap)))
held_long at gap len ended held w past e scan long below tail m =
    ap (λ (l : List ℕ). stream_from 4294967295 at (l ++ tail)) e ∙ ap (stream_from 4294967295 at) (append_assoc w past tail)
    ∙ found_long 4294967295 at gap len w (past ++ tail) scan long below

pub held_past : (at gap len : ℕ) (ended : Bool) (held w past : List ℕ) → held ≡ w ++ past → IsScan w gap len → len ≤ 32
    → length w ≤ gap + len → length w < length held → at + length w ≡ 4294967295
    → (tail : List ℕ) → MayFollow ended tail → stream_from 4294967295 at (held ++ tail) ≡ stopped (Err TooManyBytes)
held_past at gap len ended held w [] e scan short h more here tail m = let n = ap length (e ∙ append-nil w) in
    absurd (omega (arith, n, more))
held_past at gap len ended held w (b ∷ past) e scan short h more here tail m =
    ap (λ (l : List ℕ). stream_from 4294967295 at (l ++ tail)) e ∙ ap (stream_from 4294967295 at) (append_assoc w (b ∷ past) tail)
    ∙ found_past 4294967295 at gap len b w (past ++ tail) scan short h here

pub same_held : (held w past : List ℕ) → held ≡ w ++ past → length held ≤ length w → w ≡ held
same_held held w [] e h = sym (append-nil w) ∙ sym e
same_held held w (b ∷ past) e h = let n = ap length e in absurd (omega (arith, n, length-append w (b ∷ past), h))

pub held_inside : (at gap len : ℕ) (ended : Bool) (held w past : List ℕ) → held ≡ w ++ past → IsScan w gap len → len ≤ 32
    → gap + len < length w → at + length w ≤ 4294967295 → FindsToken at held ended gap len
held_inside at gap len ended held w past e scan short h below =
    subst (λ (l : List ℕ). FindsToken at l ended gap len) (sym e) (finds_inside at gap len ended w past scan short h below)

pub held_last : (at gap len : ℕ) (ended : Bool) (held w past : List ℕ) → held ≡ w ++ past → length held ≤ length w → IsScan w gap len
    → len ≤ 32 → length w ≤ gap + len → 0 < len → ended ≡ true → at + length w ≤ 4294967295 → FindsToken at held ended gap len
held_last at gap len ended held w past e all scan short h some e2 below =
    subst (λ (l : List ℕ). FindsToken at l ended gap len) (same_held held w past e all)
    (finds_last at gap len ended w scan short h some e2 below)

pub held_more : (at gap len : ℕ) (ended : Bool) (held w past : List ℕ) → held ≡ w ++ past → length held ≤ length w → IsScan w gap len
    → len ≤ 32 → length w ≤ gap + len → ended ≡ false → at + length w ≤ 4294967295 → FindsMore at held ended gap
held_more at gap len ended held w past e all scan short h e2 below =
    subst (λ (l : List ℕ). FindsMore at l ended gap) (same_held held w past e all) (finds_more at gap len ended w scan short h e2 below)

pub held_end : (at gap len : ℕ) (held w past : List ℕ) → held ≡ w ++ past → length held ≤ length w → IsScan w gap len → len ≡ 0
    → length w ≤ gap + len → at + length w ≤ 4294967295 → stream_from 4294967295 at held ≡ stopped (Ok (at + length held))
held_end at gap len held w past e all scan none h below =
    subst (λ (l : List ℕ). stream_from 4294967295 at l ≡ stopped (Ok (at + length l))) (same_held held w past e all)
    (found_end 4294967295 at gap w (subst (IsScan w gap) none scan) (omega arith) below)

-- The stream of bytes that begin with a gap, with a token, or with a byte that passes a limit.
use Rattle.std.proofs.Common.{◌≡◌, ℕ, zero, suc, ◌+◌, ◌-◌, ◌<◌, ◌≤◌, Bool, true, false, cond, leb, ltb, List, [], ◌∷◌, ◌++◌, length, take, drop, min, Option, Some, None, Ok, Err, refl, sym, ap, subst, ◌∙◌, add-zero, length-append, drop-cons, get_or, arith}
use Rattle.std.specs.Prelude.{take_while}
use Rattle.std.specs.List.{prefix_len, list_all}
use Rattle.std.proofs.lemmas.Bool.Decides.{nat_tests}
use Rattle.std.proofs.lemmas.Bool.{lt-leb, lt-ltb, le-ltb, le-leb, and_parts, not-true}
use Rattle.std.proofs.lemmas.List.{take_min, take-take, drop-drop, length-drop, length-take}
use Rattle.std.proofs.lemmas.List.Sums.{prefix_len-le-length}
use Rattle.std.proofs.lemmas.List.Folds.{length-prefix_len}
use Rattle.tt_text.specs.Plain.{is_plain}
use Rattle.tt_text.specs.Tokens.{is_separator, in_token, Placed, tokens_from}
use Rattle.tt_text.specs.Feeds.{Fault, fault_from, ends_before, stop_of, stream_with, stream_from, with_token, stopped}
use Rattle.tt_text.specs.Found.{AtGap, IsScan}
use Rattle.tt_text.specs.declared.feed.FeedFault.TheVariants.{TokenTooLong, TooManyBytes}
use Rattle.tt_text.proofs.Runs.{tokens-begins, ended, run_passes}
use Rattle.tt_text.proofs.Written.{tokens-written, after_separator}
use Rattle.tt_text.proofs.Places.{over_gap, all_run, nothing_more}

-- -- the place of the fault

-- a separator within the limit
pub fault-separator : (most n k b : ℕ) (xs : List ℕ) → is_separator b ≡ true → n < most → fault_from most n k (b ∷ xs) ≡ fault_from most
    (n + 1) 0 xs
unfolding fault_from
fault-separator most n k b xs e h = let no : leb most n ≡ false = lt-leb _ _ h in rw (no, e) refl

-- a byte of a token within the limits
pub fault-inside : (most n k b : ℕ) (xs : List ℕ) → is_separator b ≡ false → n < most → k < 32
    → fault_from most n k (b ∷ xs) ≡ fault_from most (n + 1) (k + 1) xs
unfolding fault_from
fault-inside most n k b xs e h s = let no : leb most n ≡ false = lt-leb _ _ h in let short : leb 32 k ≡ false = lt-leb _ _ s in
    rw (no, e, short) refl

fault-long : (most n b : ℕ) (xs : List ℕ) → is_separator b ≡ false → n < most → fault_from most n 32 (b ∷ xs) ≡ Some
    (record { byte = n; fault = TokenTooLong (n - 32) })
unfolding fault_from
fault-long most n b xs e h = let no : leb most n ≡ false = lt-leb _ _ h in rw (no, e) refl

fault-past : (most n k b : ℕ) (xs : List ℕ) → most ≤ n → fault_from most n k (b ∷ xs) ≡ Some (record { byte = n; fault = TooManyBytes })
unfolding fault_from
fault-past most n k b xs h = let yes : leb most n ≡ true = le-leb _ _ h in rw yes refl

pub fault-nothing : (most n k : ℕ) → fault_from most n k [] ≡ None
unfolding fault_from
fault-nothing most n k = refl

gap_fault : (most n : ℕ) (g xs : List ℕ) → list_all is_separator g ≡ true → n + length g ≤ most
    → fault_from most n 0 (g ++ xs) ≡ fault_from most (n + length g) 0 xs
gap_fault most n [] xs all h = ap (λ (m : ℕ). fault_from most m 0 xs) (sym (add-zero n))
gap_fault most n (b ∷ g) xs all h =
    let parts = and_parts (is_separator b) (list_all is_separator g) all in
    let first = fault-separator most n 0 b (g ++ xs) parts.0 (omega arith) in
    let more = gap_fault most (n + 1) g xs parts.1 (omega arith) in
    let same : (n + 1) + length g ≡ n + length (b ∷ g) = omega arith in
    first ∙ more ∙ ap (λ (m : ℕ). fault_from most m 0 xs) same

token_fault : (most n k : ℕ) (t xs : List ℕ) → list_all in_token t ≡ true → n + length t ≤ most → k + length t ≤ 32
    → fault_from most n k (t ++ xs) ≡ fault_from most (n + length t) (k + length t) xs
token_fault most n k [] xs all h s = ap (λ (m : ℕ). fault_from most m k xs) (sym (add-zero n))
    ∙ ap (λ (m : ℕ). fault_from most (n + 0) m xs) (sym (add-zero k))
token_fault most n k (b ∷ t) xs all h s =
    let parts = and_parts (in_token b) (list_all in_token t) all in
    let first = fault-inside most n k b (t ++ xs) (not-true (is_separator b) parts.0) (omega arith) (omega arith) in
    let more = token_fault most (n + 1) (k + 1) t xs parts.1 (omega arith) (omega arith) in
    let same : (n + 1) + length t ≡ n + length (b ∷ t) = omega arith in
    let same_k : (k + 1) + length t ≡ k + length (b ∷ t) = omega arith in
    first ∙ more ∙ ap (λ (m : ℕ). fault_from most m ((k + 1) + length t) xs) same
    ∙ ap (λ (m : ℕ). fault_from most (n + length (b ∷ t)) m xs) same_k

-- the fault is at byte n or later
abbrev pub NotBefore : ℕ → Option Fault → Type 0
NotBefore n None = Unit {0}
NotBefore n (Some f) = n ≤ f.byte

later : (m n : ℕ) (o : Option Fault) → m ≤ n → NotBefore n o → NotBefore m o
later m n None h p = tt
later m n (Some f) h p = omega arith

late_step : (most n k b : ℕ) (xs : List ℕ) (past separator long : Bool) → NotBefore (n + 1) (fault_from most (n + 1) 0 xs)
    → NotBefore (n + 1) (fault_from most (n + 1) (k + 1) xs)
    → NotBefore n
    (cond past (Some (record { byte = n; fault = TooManyBytes }))
    (cond separator (fault_from most (n + 1) 0 xs) (cond long (Some (record { byte = n; fault = TokenTooLong (n - k) }))
    (fault_from most (n + 1) (k + 1) xs))))
late_step most n k b xs true separator long p q = omega arith
late_step most n k b xs false true long p q = later n (n + 1) (fault_from most (n + 1) 0 xs) (omega arith) p
late_step most n k b xs false false true p q = omega arith
late_step most n k b xs false false false p q = later n (n + 1) (fault_from most (n + 1) (k + 1) xs) (omega arith) q

pub late : (most n k : ℕ) (xs : List ℕ) → NotBefore n (fault_from most n k xs)
unfolding fault_from
late most n k [] = tt
late most n k (b ∷ xs) = late_step most n k b xs (leb most n) (is_separator b) (leb 32 k) (late most (n + 1) 0 xs)
    (late most (n + 1) (k + 1) xs)

-- ---- tokens before the fault

pub while-yes : {X : Type 0} (p : X → Bool) (x : X) (xs : List X) → p x ≡ true → take_while p (x ∷ xs) ≡ x ∷ take_while p xs
while-yes p x xs e =
    let n : cond (p x) (1 + prefix_len p xs) 0 ≡ suc (prefix_len p xs) = rw e (omega arith) in
    ap (λ (m : ℕ). take m (x ∷ xs)) n

pub while-no : {X : Type 0} (p : X → Bool) (x : X) (xs : List X) → p x ≡ false → take_while p (x ∷ xs) ≡ []
while-no p x xs e =
    let n : cond (p x) (1 + prefix_len p xs) 0 ≡ zero = rw e refl in
    ap (λ (m : ℕ). take m (x ∷ xs)) n

ends_in_time : (t : Placed) (o : Option Fault) → NotBefore (t.at + length t.text + 1) o → ends_before o t ≡ true
ends_in_time t None p = refl
ends_in_time t (Some f) p = lt-ltb _ _ (omega arith)

length-run : (xs ys : List ℕ) → list_all in_token xs ≡ true → length xs ≤ prefix_len in_token (xs ++ ys)
length-run [] ys all = omega arith
length-run (b ∷ xs) ys all =
    let parts = and_parts (in_token b) (list_all in_token xs) all in
    let more = length-run xs ys parts.1 in
    rw parts.0 (omega arith)

none_step : (f : Fault) (n b : ℕ) (bs : List ℕ) (v : Bool) → is_separator b ≡ v → f.byte ≤ n + prefix_len in_token (b ∷ bs)
    → (f.byte ≤ (n + 1) + prefix_len in_token bs → take_while (ends_before (Some f)) (tokens_from false (n + 1) bs) ≡ [])
    → take_while (ends_before (Some f)) (tokens_from false n (b ∷ bs)) ≡ []
unfolding tokens_from
none_step f n b bs true e h more =
    let nothing : prefix_len in_token (b ∷ bs) ≡ 0 = rw e refl in
    rw e (more (omega arith))
none_step f n b bs false e h more =
    let len : length (take (prefix_len in_token (b ∷ bs)) (b ∷ bs)) ≡ prefix_len in_token (b ∷ bs) = length-prefix_len in_token (b ∷ bs) in
    let late_end : ltb (n + length (take (prefix_len in_token (b ∷ bs)) (b ∷ bs))) f.byte ≡ false = le-ltb _ _ (omega arith) in
    let made : Placed = record { text = take (prefix_len in_token (b ∷ bs)) (b ∷ bs); at = n } in
    let first : tokens_from false n (b ∷ bs) ≡ made ∷ tokens_from true (n + 1) bs = rw e refl in
    ap (take_while (ends_before (Some f))) first ∙ while-no (ends_before (Some f)) made (tokens_from true (n + 1) bs) late_end

-- if the fault is within the first token, no token ends before it
no_tokens : (f : Fault) (n : ℕ) (xs : List ℕ) → f.byte ≤ n + prefix_len in_token xs → take_while (ends_before (Some f))
    (tokens_from false n xs) ≡ []
unfolding tokens_from
no_tokens f n [] h = refl
no_tokens f n (b ∷ bs) h = none_step f n b bs (is_separator b) refl h (λ m. no_tokens f (n + 1) bs m)

-- ---- streams

pub stream_is : (most n : ℕ) (xs : List ℕ) (fault : Option Fault) (end : ℕ) (ts : List Placed) → fault_from most n 0 xs ≡ fault
    → n + length xs ≡ end → tokens_from false n xs ≡ ts → stream_from most n xs ≡ stream_with fault end ts
unfolding stream_from
stream_is most n xs fault end ts a b c = ap (λ f. stream_with f (n + length xs) (tokens_from false n xs)) a
    ∙ ap (λ (m : ℕ). stream_with fault m (tokens_from false n xs)) b ∙ ap (stream_with fault end) c

-- a gap adds nothing to the stream
pub stream-gap : (most n : ℕ) (g xs : List ℕ) → list_all is_separator g ≡ true → n + length g ≤ most
    → stream_from most n (g ++ xs) ≡ stream_from most (n + length g) xs
stream-gap most n g xs all h =
    let len : n + length (g ++ xs) ≡ (n + length g) + length xs = omega (arith, length-append g xs) in
    stream_is most n (g ++ xs) _ _ _ (gap_fault most n g xs all h) len (over_gap n g xs all)
    ∙ sym (stream_is most (n + length g) xs _ _ _ refl refl refl)

pub stream-nothing : (most n : ℕ) → stream_from most n [] ≡ stopped (Ok n)
unfolding tokens_from
stream-nothing most n = stream_is most n [] None n [] (fault-nothing most n 0) (add-zero n) refl

with_first : (fault : Option Fault) (end : ℕ) (t : Placed) (ts : List Placed) → ends_before fault t ≡ true
    → stream_with fault end (t ∷ ts) ≡ with_token t (stream_with fault end ts)
with_first fault end t ts e = ap (λ (l : List Placed). record { tokens = l; stop = stop_of fault end })
    (while-yes (ends_before fault) t ts e)

-- a token with a byte after it
pub stream-token : (most n b : ℕ) (t xs : List ℕ) → list_all in_token t ≡ true → 0 < length t → length t ≤ 32 → n + length t < most
    → is_separator b ≡ true
    → stream_from most n (t ++ b ∷ xs) ≡ with_token (record { text = t; at = n }) (stream_from most (n + length t) (b ∷ xs))
stream-token most n b t xs all some short h e =
    let m : ℕ = n + length t in
    let token : Placed = record { text = t; at = n } in
    let fault : Option Fault = fault_from most (m + 1) 0 xs in
    let end : ℕ = m + length (b ∷ xs) in
    let len : n + length (t ++ b ∷ xs) ≡ end = omega (arith, length-append t (b ∷ xs)) in
    let before = token_fault most n 0 t (b ∷ xs) all (omega arith) (omega arith) ∙ fault-separator most m (0 + length t) b xs e h in
    let after = fault-separator most m 0 b xs e h in
    let intime = ends_in_time token fault (late most (m + 1) 0 xs) in
    stream_is most n (t ++ b ∷ xs) fault end _ before len (tokens-written n t xs b (record { some = some; within = all }) e)
    ∙ with_first fault end token (tokens_from false (m + 1) xs) intime
    ∙ ap (with_token token) (sym (stream_is most m (b ∷ xs) fault end _ after refl (after_separator m b xs e)))

take_length : (t : List ℕ) → take (length t) t ≡ t
take_length [] = refl
take_length (b ∷ t) = ap (λ l. b ∷ l) (take_length t)

drop_length : (t : List ℕ) → drop (length t) t ≡ []
drop_length [] = refl
drop_length (b ∷ t) = drop_length t

tokens-last : (n : ℕ) (t : List ℕ) → list_all in_token t ≡ true → 0 < length t → tokens_from false n t ≡ record { text = t; at = n } ∷ []
tokens-last n t all some =
    let len = all_run t all in
    tokens-begins n t (omega (arith, len, some)) ∙ rw (len, take_length t, drop_length t, nothing_more (n + length t)) refl

-- a token at the end of the bytes
pub stream-last : (most n : ℕ) (t : List ℕ) → list_all in_token t ≡ true → 0 < length t → length t ≤ 32 → n + length t ≤ most
    → stream_from most n t ≡ with_token (record { text = t; at = n }) (stream_from most (n + length t) [])
stream-last most n t all some short h =
    let before : fault_from most n 0 t ≡ None = ap (fault_from most n 0) (sym (append_nil t)) ∙ token_fault most n 0 t [] all h
    (omega arith) ∙ fault-nothing most (n + length t) (0 + length t) in
    stream_is most n t None (n + length t) _ before refl (tokens-last n t all some)
    ∙ ap (with_token (record { text = t; at = n })) (sym (stream-nothing most (n + length t)))
  where
    append_nil : (xs : List ℕ) → xs ++ [] ≡ xs
    append_nil [] = refl
    append_nil (x ∷ xs) = ap (λ l. x ∷ l) (append_nil xs)

fault_stops : (most n : ℕ) (xs : List ℕ) (f : Fault) → fault_from most n 0 xs ≡ Some f → f.byte ≤ n + prefix_len in_token xs
    → stream_from most n xs ≡ stopped (Err f.fault)
fault_stops most n xs f e h =
    stream_is most n xs (Some f) (n + length xs) (tokens_from false n xs) e refl refl
    ∙ ap (λ (ts : List Placed). record { tokens = ts; stop = Err f.fault }) (no_tokens f n xs h)

-- the 33rd byte of a token
long_run : (most n k : ℕ) (t xs : List ℕ) → list_all in_token t ≡ true → n + length t ≤ most → k + length t ≡ 33 → 0 < length t
    → fault_from most n k (t ++ xs) ≡ Some (record { byte = n + length t - 1; fault = TokenTooLong (n - k) })
long_run most n k [] xs all h len some = absurd (omega (arith, some))
long_run most n k (b ∷ []) xs all h len some =
    let parts = and_parts (in_token b) true all in
    let here : k ≡ 32 = omega arith in
    let byte : n ≡ n + length (b ∷ []) - 1 = omega arith in
    let is : n - 32 ≡ n - k = omega arith in
    ap (λ (m : ℕ). fault_from most n m (b ∷ xs)) here ∙ fault-long most n b xs (not-true (is_separator b) parts.0) (omega arith)
    ∙ ap (λ (m : ℕ). Some (record { byte = n; fault = TokenTooLong m })) is
    ∙ ap (λ (m : ℕ). Some (record { byte = m; fault = TokenTooLong (n - k) })) byte
long_run most n k (b ∷ c ∷ t) xs all h len some =
    let parts = and_parts (in_token b) (list_all in_token (c ∷ t)) all in
    let first = fault-inside most n k b ((c ∷ t) ++ xs) (not-true (is_separator b) parts.0) (omega arith) (omega arith) in
    let more = long_run most (n + 1) (k + 1) (c ∷ t) xs parts.1 (omega arith) (omega arith) (omega arith) in
    let byte : (n + 1) + length (c ∷ t) - 1 ≡ n + length (b ∷ c ∷ t) - 1 = omega arith in
    let is : (n + 1) - (k + 1) ≡ n - k = omega arith in
    first ∙ more ∙ ap (λ (m : ℕ). Some (record { byte = (n + 1) + length (c ∷ t) - 1; fault = TokenTooLong m })) is
    ∙ ap (λ (m : ℕ). Some (record { byte = m; fault = TokenTooLong (n - k) })) byte

-- a token of 33 bytes or more
pub stream-long : (most n : ℕ) (t xs : List ℕ) → list_all in_token t ≡ true → length t ≡ 33 → n + 33 ≤ most
    → stream_from most n (t ++ xs) ≡ stopped (Err (TokenTooLong n))
stream-long most n t xs all len h =
    let run = length-run t xs all in
    let is : n - 0 ≡ n = omega arith in
    let f : Fault = record { byte = n + length t - 1; fault = TokenTooLong n } in
    let here : fault_from most n 0 (t ++ xs) ≡ Some f = long_run most n 0 t xs all (omega arith) (omega arith) (omega arith)
    ∙ ap (λ (m : ℕ). Some (record { byte = n + length t - 1; fault = TokenTooLong m })) is in
    fault_stops most n (t ++ xs) f here (omega arith)

-- a byte past the limit
pub stream-past : (most n b : ℕ) (t xs : List ℕ) → list_all in_token t ≡ true → length t ≤ 32 → n + length t ≡ most
    → stream_from most n (t ++ b ∷ xs) ≡ stopped (Err TooManyBytes)
stream-past most n b t xs all short here =
    let first = token_fault most n 0 t (b ∷ xs) all (omega arith) (omega arith) in
    let second = fault-past most (n + length t) (0 + length t) b xs (omega arith) in
    let run = length-run t (b ∷ xs) all in
    fault_stops most n (t ++ b ∷ xs) (record { byte = n + length t; fault = TooManyBytes }) (first ∙ second) (omega arith)

-- ---- a scan

stops_step : (n b : ℕ) (bs : List ℕ) (v : Bool) → is_separator b ≡ v → prefix_len in_token (b ∷ take n bs) < suc n
    → (prefix_len in_token (take n bs) < n → AtGap (drop (prefix_len in_token (take n bs)) bs))
    → AtGap (drop (prefix_len in_token (b ∷ take n bs)) (b ∷ bs))
stops_step n b bs true e h more =
    let none : prefix_len in_token (b ∷ take n bs) ≡ zero = rw e refl in
    subst (λ (m : ℕ). AtGap (drop m (b ∷ bs))) (sym none) e
stops_step n b bs false e h more =
    let one : prefix_len in_token (b ∷ take n bs) ≡ suc (prefix_len in_token (take n bs)) = rw e (omega arith) in
    subst (λ (m : ℕ). AtGap (drop m (b ∷ bs))) (sym one) (more (omega arith))

run_stops : (n : ℕ) (xs : List ℕ) → prefix_len in_token (take n xs) < n → AtGap (drop (prefix_len in_token (take n xs)) xs)
run_stops zero xs h = absurd (omega (arith, h))
run_stops (suc n) [] h = tt
run_stops (suc n) (b ∷ bs) h = stops_step n b bs (is_separator b) refl h (run_stops n bs)

empty_run : (n : ℕ) (xs : List ℕ) → prefix_len in_token (take (suc n) xs) ≡ 0 → prefix_len in_token xs ≡ 0
empty_run n [] h = refl
empty_run n (b ∷ bs) h = empty_step n b bs (is_separator b) refl h
  where
    empty_step : (n b : ℕ) (bs : List ℕ) (v : Bool) → is_separator b ≡ v → prefix_len in_token (take (suc n) (b ∷ bs)) ≡ 0
        → prefix_len in_token (b ∷ bs) ≡ 0
    empty_step n b bs true e h = rw e refl
    empty_step n b bs false e h = let one : prefix_len in_token (take (suc n) (b ∷ bs)) ≡ 1 + prefix_len in_token (take n bs) =
        rw e refl in absurd (omega (arith, one, h))

pub scan_is : (bytes begun front : List ℕ) (gap most len : ℕ) → gap ≡ prefix_len is_separator bytes → gap ≤ length bytes
    → begun ≡ drop gap bytes
    → most ≡ min 33 (length begun) → front ≡ take most begun → len ≡ prefix_len in_token front → IsScan bytes gap len
scan_is bytes begun front gap most len gap_is gap_le begun_is most_is front_is len_is =
    let front33 : front ≡ take 33 begun = front_is ∙ ap (λ (m : ℕ). take m begun) most_is ∙ take_min 33 begun in
    let count : length begun ≡ length bytes - gap = ap length begun_is ∙ length-drop gap bytes in
    let fits : prefix_len in_token front ≤ length front = prefix_len-le-length in_token front in
    let size : length front ≡ min 33 (length begun) = ap length front33 ∙ length-take 33 begun in
    let run : len ≡ prefix_len in_token (take 33 begun) = len_is ∙ ap (prefix_len in_token) front33 in
    let within_front : take len begun ≡ take len (take 33 begun) = sym (take-take len 33 begun (omega arith)) in
    let whole : list_all in_token (take len (take 33 begun)) ≡ true = rw run (run_passes in_token (take 33 begun)) in
    record {
      within = omega arith;
      at_most = omega arith;
      separators = rw gap_is (run_passes is_separator bytes);
      token = ap (λ (l : List ℕ). list_all in_token (take len l)) (sym begun_is) ∙ ap (list_all in_token) within_front ∙ whole;
      stops = λ (s : len ≤ 32). subst AtGap (drop-drop len gap bytes)
          (subst (λ (l : List ℕ). AtGap (drop len l)) begun_is
          (subst (λ (m : ℕ). AtGap (drop m begun)) (sym run) (run_stops 33 begun (omega (arith, s, run)))));
      begins = λ (s : len ≡ 0).
          let is : drop gap bytes ≡ drop (prefix_len is_separator bytes) bytes = ap (λ (m : ℕ). drop m bytes) gap_is in
          let none : prefix_len in_token begun ≡ 0 = empty_run 32 begun (sym run ∙ s) in
          is ∙ ended bytes (ap (prefix_len in_token) (sym is ∙ sym begun_is) ∙ none);
    }

plain_in_token : (b : ℕ) → is_plain b ≡ true → in_token b ≡ true
plain_in_token b e = grind (arith, nat_tests)

plain_run : (xs : List ℕ) → list_all in_token (take (prefix_len is_plain xs) xs) ≡ true
plain_run [] = refl
plain_run (x ∷ xs) = plain_step x xs (is_plain x) refl (plain_run xs)
  where
    plain_step : (x : ℕ) (xs : List ℕ) (v : Bool) → is_plain x ≡ v → list_all in_token (take (prefix_len is_plain xs) xs) ≡ true
        → list_all in_token (take (prefix_len is_plain (x ∷ xs)) (x ∷ xs)) ≡ true
    plain_step x xs true e h =
        let n : prefix_len is_plain (x ∷ xs) ≡ suc (prefix_len is_plain xs) = rw e (omega arith) in
        ap (λ (m : ℕ). list_all in_token (take m (x ∷ xs))) n ∙ rw (plain_in_token x e) h
    plain_step x xs false e h =
        let n : prefix_len is_plain (x ∷ xs) ≡ zero = rw e refl in
        ap (λ (m : ℕ). list_all in_token (take m (x ∷ xs))) n

gap_over_step : (b : ℕ) (bs : List ℕ) (v : Bool) → is_separator b ≡ v
    → (AtGap (drop (prefix_len is_separator bs) bs) → drop (prefix_len is_separator bs) bs ≡ [])
    → AtGap (drop (prefix_len is_separator (b ∷ bs)) (b ∷ bs)) → drop (prefix_len is_separator (b ∷ bs)) (b ∷ bs) ≡ []
gap_over_step b bs true e more h =
    let same : prefix_len is_separator (b ∷ bs) ≡ suc (prefix_len is_separator bs) = rw e (omega arith) in
    ap (λ (m : ℕ). drop m (b ∷ bs)) same ∙ more (subst (λ (m : ℕ). AtGap (drop m (b ∷ bs))) same h)
gap_over_step b bs false e more h =
    let none : prefix_len is_separator (b ∷ bs) ≡ zero = rw e refl in
    let first : is_separator b ≡ true = subst (λ (m : ℕ). AtGap (drop m (b ∷ bs))) none h in
    absurd (let no : true ≡ false = sym first ∙ e in cc)

-- no separator comes after a gap
gap_over : (xs : List ℕ) → AtGap (drop (prefix_len is_separator xs) xs) → drop (prefix_len is_separator xs) xs ≡ []
gap_over [] h = refl
gap_over (b ∷ bs) h = gap_over_step b bs (is_separator b) refl (gap_over bs) h

-- a scan of plain bytes with a separator after them
pub plain_scan_is : (bytes : List ℕ) (gap end : ℕ) → gap ≡ prefix_len is_separator bytes → end ≡ gap + prefix_len is_plain
    (drop gap bytes) → end < length bytes → end - gap ≤ 32
    → is_separator (get_or bytes end 0) ≡ true → IsScan bytes gap (end - gap)
plain_scan_is bytes gap end gap_is end_is more short after =
    let len_is : end - gap ≡ prefix_len is_plain (drop gap bytes) = omega arith in
    let stop : gap + (end - gap) ≡ end = omega arith in
    let here : AtGap (drop end bytes) = subst AtGap (sym (drop-cons bytes end 0 more)) after in
    let at_gap : AtGap (drop (gap + (end - gap)) bytes) = subst (λ (m : ℕ). AtGap (drop m bytes)) (sym stop) here in
    record {
      within = omega arith;
      at_most = omega arith;
      separators = rw gap_is (run_passes is_separator bytes);
      token = rw len_is (plain_run (drop gap bytes));
      stops = λ (s : end - gap ≤ 32). at_gap;
      begins = λ (s : end - gap ≡ 0).
          let is : drop gap bytes ≡ drop (prefix_len is_separator bytes) bytes = ap (λ (m : ℕ). drop m bytes) gap_is in
          let same : end ≡ gap = omega arith in
          is ∙ gap_over bytes (subst AtGap is (subst (λ (m : ℕ). AtGap (drop m bytes)) same here));
    }

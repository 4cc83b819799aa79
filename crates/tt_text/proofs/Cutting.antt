-- The stream of a feed, step by step, for bytes after which a read fails.
use Rattle.std.proofs.Common.{◌≡◌, ℕ, ◌+◌, ◌-◌, ◌<◌, Bool, true, false, ◌||◌, List, [], ◌∷◌, ◌++◌, length, take, drop, Option, Some, None, Result, Ok, Err, is_some, refl, sym, ap, subst, ◌∙◌, arith, append_assoc, append-nil, length-append}
use Rattle.std.specs.Result.{is_err, OnOk, OnErr}
use Rattle.std.specs.Io.KnownBytes.{Consumes, Keeps}
use Rattle.std.proofs.lemmas.Bool.{lt-ltb}
use Rattle.std.proofs.lemmas.List.{length-drop, length-take-le}
use Rattle.std.proofs.Math.Seq.{take-append_seam}
use Rattle.tt_text.specs.Tokens.{Placed}
use Rattle.tt_text.specs.Feeds.{Fault, fault_from, ends_before, stop_of, stream_from, with_token, stopped, Fed}
use Rattle.tt_text.specs.declared.feed.TheConstants.{MAX_BYTES}
use Rattle.tt_text.specs.Found.{FindsToken, FindsMore, has_token}
use Rattle.tt_text.specs.Fed.{Filled, list_is_empty, is_ready}
use Rattle.tt_text.specs.CutShort.{cut_short_by, cut_short, all_before, rest_of, cut_at, MayFail}
use Rattle.tt_text.specs.declared.feed.FeedFault.{FeedFault}
use Rattle.tt_text.specs.declared.feed.FeedFault.TheVariants.{Read}
use Rattle.tt_text.proofs.Feeding.{while-yes}
use Rattle.tt_text.proofs.Windows.{fed_of}

-- -- the bytes before the remaining ones

front_is : (given rest : List ℕ) → take (length (given ++ rest) - length rest) (given ++ rest) ≡ given
front_is given rest =
    let count : length (given ++ rest) - length rest ≡ length given = omega (arith, length-append given rest) in
    ap (λ (n : ℕ). take n (given ++ rest)) count ∙ take-append_seam given rest

front_known : (known : Option (List ℕ)) (given rest : List ℕ) → known ≡ Some (given ++ rest) → all_before rest known ≡ Some given
front_known known given rest e = ap (all_before rest) e ∙ ap Some (front_is given rest)

-- a feed that is not at its end
pub cut_is : (rest : List ℕ) (fed : Fed) (known : Option (List ℕ)) (given : List ℕ) → fed.fault ≡ None → fed.ended ≡ false
    → known ≡ Some (given ++ rest)
    → cut_at rest fed known ≡ cut_short (stream_from MAX_BYTES fed.at (fed.held ++ given))
unfolding cut_at
cut_is rest fed known given sound goes_on e = rw (front_known known given rest e, goes_on, sound) refl

-- a feed with a fault
pub broken_fault : (rest : List ℕ) (fed : Fed) (known : Option (List ℕ)) (f : FeedFault) → fed.fault ≡ Some f
    → cut_at rest fed known ≡ stopped (Err f)
unfolding cut_at
broken_fault rest fed known f e = rw e refl

-- ---- a token

-- a token that ends before the end of the bytes
first_stays : (t : Placed) (ts : List Placed) (stop : Result ℕ FeedFault) → ((n : ℕ) → stop ≡ Ok n → t.at + length t.text < n)
    → cut_short_by (t ∷ ts) stop ≡ with_token t (cut_short_by ts stop)
first_stays t ts (Ok n) h =
    ap (λ (l : List Placed). record { tokens = l; stop = Err Read })
    (while-yes (ends_before (Some (record { byte = n; fault = Read }))) t ts (lt-ltb _ _ (h n refl)))
first_stays t ts (Err f) h = refl

stop_end : (fault : Option Fault) (n m : ℕ) → stop_of fault n ≡ Ok m → n ≡ m
stop_end None n m e = cc
stop_end (Some f) n m e = absurd cc

stream_end : (most at : ℕ) (bytes : List ℕ) (n : ℕ) → (stream_from most at bytes).stop ≡ Ok n → at + length bytes ≡ n
unfolding stream_from
stream_end most at bytes n e = stop_end (fault_from most at 0 bytes) (at + length bytes) n e

token_broken : (held : List ℕ) (at gap len : ℕ) (given : List ℕ) → FindsToken at held false gap len
    → cut_short (stream_from 4294967295 at (held ++ given)) ≡ with_token (record { text = take len (drop gap held); at = at + gap })
    (cut_short (stream_from 4294967295 (at + gap + len) (drop (gap + len) held ++ given)))
token_broken held at gap len given f =
    let t : List ℕ = take len (drop gap held) in
    let behind : List ℕ = drop (gap + len) held ++ given in
    let rest = stream_from 4294967295 (at + gap + len) behind in
    let more : gap + len < length held = f.followed refl in
    let size : length t ≡ len = length-take-le len (drop gap held) (omega (arith, length-drop gap held)) in
    let count : length behind ≡ (length held - (gap + len)) + length given =
    omega (arith, length-append (drop (gap + len) held) given, length-drop (gap + len) held) in
    ap cut_short (f.given given (λ e. absurd cc))
    ∙ first_stays (record { text = t; at = at + gap }) rest.tokens rest.stop
    (λ n e. let end = stream_end 4294967295 (at + gap + len) behind n e in omega arith)

-- a read that may fail after a token may fail before it
pub fed_token_cut : (f new : Fed) (gap len at : ℕ) (known : Option (List ℕ)) → f.fault ≡ None → FindsToken f.at f.held f.ended gap len
    → at ≡ f.at + gap
    → new ≡ fed_of (drop (gap + len) f.held) (f.at + gap + len) (take len (drop gap f.held)) f.ended false f.fault
    → (rest : List ℕ) → MayFail rest new known → MayFail rest f known
    × (cut_at rest f known ≡ with_token (record { text = new.token; at = at }) (cut_at rest new known))
fed_token_cut f new gap len at known sound finds at_is new_is rest m =
    let sound_new : new.fault ≡ None = ap (λ (v : Fed). v.fault) new_is ∙ sound in
    let goes_on_new : new.ended ≡ false = m.goes_on sound_new in
    let goes_on : f.ended ≡ false = sym (ap (λ (v : Fed). v.ended) new_is) ∙ goes_on_new in
    let now = token_broken f.held f.at gap len m.given (subst (λ (b : Bool). FindsToken f.at f.held b gap len) goes_on finds) in
    let after = cut_is rest new known m.given sound_new goes_on_new m.bytes in (
      record { given = m.given; bytes = m.bytes; goes_on = λ e. goes_on },
      cut_is rest f known m.given sound goes_on m.bytes ∙ now
          ∙ ap (λ (v : Fed). with_token (record { text = v.token; at = f.at + gap })
          (cut_short (stream_from 4294967295 v.at (v.held ++ m.given)))) (sym new_is)
          ∙ ap (λ (n : ℕ). with_token (record { text = new.token; at = n })
          (cut_short (stream_from 4294967295 new.at (new.held ++ m.given)))) (sym at_is)
          ∙ ap (with_token (record { text = new.token; at = at })) (sym after),
    )

-- ---- more bytes

known_before : (before after : Option (List ℕ)) (bytes given rest : List ℕ) → is_some before ≡ true → Consumes before after bytes
    → after ≡ Some (given ++ rest) → before ≡ Some ((bytes ++ given) ++ rest)
known_before None after bytes given rest k c e = absurd cc
known_before (Some xs) None bytes given rest k c e = absurd c
known_before (Some xs) (Some ys) bytes given rest k c e =
    let same : ys ≡ given ++ rest = cc in
    ap Some (c ∙ ap (λ (l : List ℕ). bytes ++ l) same ∙ sym (append_assoc bytes given rest))

-- a read that may fail after another read may fail before it, and gives the same
pub fed_more_cut : (f skipped new : Fed) (gap : ℕ) (before after : Option (List ℕ)) → is_some before ≡ true → f.fault ≡ None
    → FindsMore f.at f.held f.ended gap
    → skipped ≡ fed_of (drop gap f.held) (f.at + gap) [] f.ended f.over f.fault → Filled skipped new before after
    → (rest : List ℕ) → MayFail rest new after → MayFail rest f before × (cut_at rest f before ≡ cut_at rest new after)
fed_more_cut f skipped new gap before after k sound finds skipped_is filled rest m =
    let next : new ≡ fed_of (drop gap f.held ++ filled.bytes) (f.at + gap) [] (list_is_empty filled.bytes) f.over f.fault =
    filled.now ∙ ap (λ (v : Fed). fed_of (v.held ++ filled.bytes) v.at [] (list_is_empty filled.bytes) v.over v.fault) skipped_is in
    let sound_new : new.fault ≡ None = ap (λ (v : Fed). v.fault) next ∙ sound in
    let bytes = known_before before after filled.bytes m.given rest k filled.consumed m.bytes in (
      record { given = filled.bytes ++ m.given; bytes = bytes; goes_on = λ e. finds.goes_on },
      cut_is rest f before (filled.bytes ++ m.given) sound finds.goes_on bytes
          ∙ ap cut_short (finds.same (filled.bytes ++ m.given))
          ∙ ap (λ (l : List ℕ). cut_short (stream_from 4294967295 (f.at + gap) l))
          (sym (append_assoc (drop gap f.held) filled.bytes m.given))
          ∙ ap (λ (v : Fed). cut_short (stream_from 4294967295 v.at (v.held ++ m.given))) (sym next)
          ∙ sym (cut_is rest new after m.given sound_new (m.goes_on sound_new) m.bytes),
    )

-- at this point the feed needs bytes of the source
pub more_wanted : (f : Fed) (gap : ℕ) → f.fault ≡ None → FindsMore f.at f.held f.ended gap → is_ready f ≡ true → ⊥
more_wanted f gap sound finds r = no_way (is_some f.fault) f.ended (has_token f.held) (ap is_some sound) finds.goes_on finds.partial r
  where
    no_way : (a b c : Bool) → a ≡ false → b ≡ false → c ≡ false → (a || (b || c)) ≡ true → ⊥
    no_way true b c x y z e = absurd cc
    no_way false true c x y z e = absurd cc
    no_way false false true x y z e = absurd cc
    no_way false false false x y z e = absurd cc

-- ---- the failure

rest_known : (before after : Option (List ℕ)) → is_some before ≡ true → Keeps before after → before ≡ Some (rest_of after)
rest_known None after k c = absurd cc
rest_known (Some xs) None k c = absurd c
rest_known (Some xs) (Some ys) k c = ap Some (sym c)

-- a read fails at this point
pub fed_cut_off : (f : Fed) (gap : ℕ) (before after : Option (List ℕ)) → is_some before ≡ true → f.fault ≡ None
    → FindsMore f.at f.held f.ended gap → Keeps before after
    → MayFail (rest_of after) f before × (cut_at (rest_of after) f before ≡ stopped (Err Read))
fed_cut_off f gap before after k sound finds keeps =
    let bytes : before ≡ Some ([] ++ rest_of after) = rest_known before after k keeps in (
      record { given = []; bytes = bytes; goes_on = λ e. finds.goes_on },
      cut_is (rest_of after) f before [] sound finds.goes_on bytes ∙ ap (λ (l : List ℕ). cut_short (stream_from 4294967295 f.at l))
          (append-nil f.held) ∙ finds.open_token,
    )

-- a read has failed before
pub fed_fault_cut : (f : Fed) (fault : FeedFault) (known : Option (List ℕ)) → is_some known ≡ true → f.fault ≡ Some fault
    → MayFail (rest_of known) f known × (cut_at (rest_of known) f known ≡ stopped (Err fault))
fed_fault_cut f fault known k e = (
  record { given = []; bytes = is_rest known k; goes_on = λ none. absurd (let no : Some fault ≡ None = sym e ∙ none in cc) },
  broken_fault (rest_of known) f known fault e,
)
  where
    is_rest : (known : Option (List ℕ)) → is_some known ≡ true → known ≡ Some ([] ++ rest_of known)
    is_rest None k = absurd cc
    is_rest (Some xs) k = refl

-- -- results that are a value, and results that are not

pub was_ok : {T E : Type 0} (r : Result T E) (P : Type 0) → is_err r ≡ false → OnOk r P → P
was_ok (Ok x) P e h = h
was_ok (Err f) P e h = absurd cc

pub was_err : {T E : Type 0} (r : Result T E) (P : Type 0) → is_err r ≡ true → OnErr r P → P
was_err (Ok x) P e h = absurd cc
was_err (Err f) P e h = h

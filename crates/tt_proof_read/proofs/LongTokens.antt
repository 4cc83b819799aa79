-- A stream that ends at a token which is too long: the bytes have this token.
use Rattle.std.proofs.Common.{◌≡◌, ◌⊎◌, inl, inr, ℕ, ◌+◌, ◌-◌, ◌<◌, ◌≤◌, Bool, true, false, cond, List, [], ◌∷◌, length, take, Option, Some, None, Err, refl, sym, subst, arith}
use Rattle.std.specs.Prelude.{Any, nat_le}
use Rattle.std.specs.List.{prefix_len, AllByRecursion}
use Rattle.std.proofs.lemmas.Bool.{leb-true}
use Rattle.std.proofs.lemmas.List.Folds.{length-prefix_len}
use Rattle.tt_text.specs.Tokens.{is_separator, in_token, Placed, tokens_from, tokens_of}
use Rattle.tt_text.specs.Feeds.{Fault, fault_from, stop_of, stream_from}
use Rattle.tt_text.specs.declared.feed.FeedFault.TheVariants.{TokenTooLong, TooManyBytes}
use Rattle.tt_instance.proofs.Shared.{NoneAt, Shared, Apart, Next}
use Rattle.tt_instance.proofs.Beginnings.{any_later}

-- a token of more than 32 bytes lies at this offset
abbrev pub HasLong : ℕ → List Placed → Type 0
HasLong a [] = ⊥
HasLong a (t ∷ ts) = ((t.at ≡ a) × (32 < length t.text)) ⊎ HasLong a ts

-- ---- what a fault from some byte on says

-- the first byte is a separator
fault_gap : {F : Type 0} (a b c : Bool) (x y f : F) (r s : Option F) → b ≡ true → cond a (Some x) (cond b r (cond c (Some y) s))
    ≡ Some f → (x ≡ f) ⊎ (r ≡ Some f)
fault_gap true b c x y f r s e h = inl cc
fault_gap false true c x y f r s e h = inr h
fault_gap false false c x y f r s e h = absurd cc

-- the first byte is a token's
fault_token : {F : Type 0} (a b c : Bool) (x y f : F) (r s : Option F) → b ≡ false → cond a (Some x) (cond b r (cond c (Some y) s)) ≡ Some f
    → (x ≡ f) ⊎ (((c ≡ true) × (y ≡ f)) ⊎ (s ≡ Some f))
fault_token true b c x y f r s e h = inl cc
fault_token false true c x y f r s e h = absurd cc
fault_token false false true x y f r s e h = inr (inl (refl, cc))
fault_token false false false x y f r s e h = inr (inr h)

-- the token that the bytes go on with, or a later one, is too long
abbrev IsLong : Bool → ℕ → ℕ → ℕ → List ℕ → Type 0
IsLong true n k a bs = ((a + k ≡ n) × (32 < k + prefix_len in_token bs)) ⊎ HasLong a (tokens_from true n bs)
IsLong false n k a bs = HasLong a (tokens_from false n bs)

-- this fault is not the one of too many bytes
not_many : (n a : ℕ) (f : Fault) → (let x : Fault = record { byte = n; fault = TooManyBytes } in x) ≡ f → f.fault ≡ TokenTooLong a → ⊥
not_many n a f e reported = cc

long_at : (n m a : ℕ) (f : Fault) → (let x : Fault = record { byte = n; fault = TokenTooLong m } in x) ≡ f → f.fault ≡ TokenTooLong a
    → m ≡ a
long_at n m a f e reported = cc

-- a separator, and then the others
long_gap : (n k a b : ℕ) (inside : Bool) (bs : List ℕ) → is_separator b ≡ true → HasLong a (tokens_from false (n + 1) bs)
    → IsLong inside n k a (b ∷ bs)
unfolding tokens_from
long_gap n k a b true bs e h = inr (rw e h)
long_gap n k a b false bs e h = rw e h

-- a byte of the token, and then the others
long_inside : (n k a b : ℕ) (bs : List ℕ) → is_separator b ≡ false → IsLong true (n + 1) (k + 1) a bs → IsLong true n k a (b ∷ bs)
unfolding tokens_from
long_inside n k a b bs e (inl h) =
    let one : prefix_len in_token (b ∷ bs) ≡ 1 + prefix_len in_token bs = rw e refl in
    inl (omega (arith, h.0), omega (arith, one, h.1))
long_inside n k a b bs e (inr h) = inr (rw e h)

-- the first byte of a token, and then the others
long_first : (n a b : ℕ) (bs : List ℕ) → is_separator b ≡ false → IsLong true (n + 1) 1 a bs → HasLong a (tokens_from false n (b ∷ bs))
unfolding tokens_from
long_first n a b bs e h =
    let made : Placed = record { text = take (prefix_len in_token (b ∷ bs)) (b ∷ bs); at = n } in
    let first : tokens_from false n (b ∷ bs) ≡ made ∷ tokens_from true (n + 1) bs = rw e refl in
    let one : prefix_len in_token (b ∷ bs) ≡ 1 + prefix_len in_token bs = rw e refl in
    let size = length-prefix_len in_token (b ∷ bs) in
    subst (HasLong a) (sym first) (elim h [
      | inl here ↦ inl (omega (arith, here.0), omega (arith, one, here.1, size))
      | inr there ↦ inr there
    ])

-- the token that goes on is too long here
long_here : (n k m a b : ℕ) (bs : List ℕ) → is_separator b ≡ false → m + k ≡ n → m ≡ a → nat_le 32 k ≡ true → IsLong true n k a (b ∷ bs)
long_here n k m a b bs e start same long =
    let one : prefix_len in_token (b ∷ bs) ≡ 1 + prefix_len in_token bs = rw e refl in
    inl (omega (arith, start, same), omega (arith, one, leb-true _ _ long))

-- how many bytes of a token come before
abbrev Carries : Bool → ℕ → ℕ → Type 0
Carries true n k = k ≤ n
Carries false n k = k ≡ 0

-- one byte, and then the others
long_step : (most n k a b : ℕ) (inside : Bool) (bs : List ℕ) (f : Fault) (v : Bool) → is_separator b ≡ v → Carries inside n k
    → fault_from most n k (b ∷ bs) ≡ Some f → f.fault ≡ TokenTooLong a
    → (fault_from most (n + 1) 0 bs ≡ Some f → HasLong a (tokens_from false (n + 1) bs))
    → (k ≤ n → fault_from most (n + 1) (k + 1) bs ≡ Some f → IsLong true (n + 1) (k + 1) a bs) → IsLong inside n k a (b ∷ bs)
unfolding fault_from
long_step most n k a b inside bs f true e carries fails reported gap more =
    elim (fault_gap (nat_le most n) (is_separator b) (nat_le 32 k) _ _ f _ _ e fails) [
      | inl many ↦ absurd (not_many n a f many reported)
      | inr later ↦ long_gap n k a b inside bs e (gap later)
    ]
long_step most n k a b true bs f false e carries fails reported gap more =
    elim (fault_token (nat_le most n) (is_separator b) (nat_le 32 k) _ _ f _ _ e fails) [
      | inl many ↦ absurd (not_many n a f many reported)
      | inr (inl long) ↦ long_here n k (n - k) a b bs e (omega (arith, carries)) (long_at n (n - k) a f long.1 reported) long.0
      | inr (inr later) ↦ long_inside n k a b bs e (more carries later)
    ]
long_step most n k a b false bs f false e carries fails reported gap more =
    elim (fault_token (nat_le most n) (is_separator b) (nat_le 32 k) _ _ f _ _ e fails) [
      | inl many ↦ absurd (not_many n a f many reported)
      | inr (inl long) ↦ absurd (omega (arith, carries, leb-true _ _ long.0))
      | inr (inr later) ↦
          long_first n a b bs e (subst (λ (m : ℕ). IsLong true (n + 1) (m + 1) a bs) carries (more (omega (arith, carries)) later))
    ]

long_from : (most n k a : ℕ) (inside : Bool) (bs : List ℕ) (f : Fault) → Carries inside n k → fault_from most n k bs ≡ Some f
    → f.fault ≡ TokenTooLong a → IsLong inside n k a bs
unfolding fault_from
long_from most n k a inside [] f carries fails reported = absurd cc
long_from most n k a inside (b ∷ bs) f carries fails reported =
    long_step most n k a b inside bs f (is_separator b) refl carries fails reported
    (λ later. long_from most (n + 1) 0 a false bs f refl later reported)
    (λ less later. long_from most (n + 1) (k + 1) a true bs f (omega (arith, less)) later reported)

-- ---- streams

stop_fault : (fault : Option Fault) (n a : ℕ) → stop_of fault n ≡ Err (TokenTooLong a) → (f : Fault) × (fault ≡ Some f)
    × (f.fault ≡ TokenTooLong a)
stop_fault None n a e = absurd cc
stop_fault (Some f) n a e = (f, refl, cc)

-- bytes whose stream ends at a token that is too long have that token
pub long_token : (most a : ℕ) (bs : List ℕ) → (stream_from most 0 bs).stop ≡ Err (TokenTooLong a) → HasLong a (tokens_of bs)
unfolding stream_from
long_token most a bs e =
    let h = stop_fault (fault_from most 0 0 bs) (0 + length bs) a e in
    long_from most 0 0 a false bs h.0 refl h.1 h.2

-- ---- tokens that are shared

-- where tokens are all short, a long one is none of those that they share
pub long_shared : (a : ℕ) (ts us : List Placed) → Shared a ts us → HasLong a ts → AllByRecursion (λ t. length t.text ≤ 32) us → ⊥
long_shared a ts us (Apart none) h short = long_not a ts none h
  where
    long_not : (a : ℕ) (ts : List Placed) → NoneAt a ts → HasLong a ts → ⊥
    long_not a [] none h = h
    long_not a (t ∷ ts) none (inl here) = none.0 here.0
    long_not a (t ∷ ts) none (inr later) = long_not a ts none.1 later
long_shared a ts us (Next n shared) (inl here) short = omega (arith, here.1, short.0)
long_shared a ts us (Next {ts = rest} {us = others} n shared) (inr later) short = long_shared a rest others shared later short.1

-- a token lies there
pub long_stands : (a : ℕ) (ts : List Placed) → HasLong a ts → Any (λ t. t.at ≡ a) ts
long_stands a [] h = absurd h
long_stands a (t ∷ ts) (inl here) = (0, t, omega arith, refl, here.0)
long_stands a (t ∷ ts) (inr later) = any_later a t ts (long_stands a ts later)

-- A reader of a proof over two streams: if it fails at a token that both share, it fails over both.
use Rattle.std.proofs.Common.{◌≡◌, ◌≢◌, ◌⊎◌, inl, inr, ℕ, zero, suc, Bool, true, false, cond, List, [], ◌∷◌, length, Option, Some, None, Result, Ok, Err, refl, subst}
use Rattle.tt_text.specs.Tokens.{Placed}
use Rattle.tt_text.specs.Feeds.{Stream}
use Rattle.tt_text.specs.Reading.{◌>>=◌}
use Rattle.tt_text.specs.declared.feed.FeedFault.{FeedFault}
use Rattle.tt_text.proofs.Steps.{ok_is, bind_ok}
use Rattle.tt_instance.proofs.Shared.{NoneAt, Shared, Apart, Next, Stays, SameVerdict}
use Rattle.tt_proof_read.specs.Beginnings.{token_offset}
use Rattle.tt_proof_read.specs.Reading.{ended_as, first_of, token_at, one_at, collected_then, up_to_end}
use Rattle.tt_proof_read.specs.declared.fault.TextFault.{TextFault}

-- ---- streams

-- no fault at the end of a stream lies at this offset
abbrev pub EndsElsewhere : ℕ → Result ℕ FeedFault → Type 0
EndsElsewhere at stop = token_offset (ended_as stop) ≢ Some at

-- neither a token of a stream nor the fault at its end lies at this offset
abbrev pub NoneIn : ℕ → Stream → Type 0
NoneIn at s = NoneAt at s.tokens × EndsElsewhere at s.stop

-- the tokens are shared, and the fault at the end of the first stream lies elsewhere
abbrev pub SharedIn : ℕ → Stream → Stream → Type 0
SharedIn at s u = Shared at s.tokens u.tokens × EndsElsewhere at s.stop

module _ (at : ℕ) where
  -- if no token lies there: no fault that lies there
  abbrev pub StaysAt : {A : Type 0} → (A → Type 0) → Result A TextFault → Type 0
  StaysAt P r = Stays token_offset at P r

  -- over shared tokens: values that belong together, or the second reading has none, or the first is past that token
  abbrev pub Meets : {A : Type 0} → (A → Type 0) → (A → A → Type 0) → Result A TextFault → Result A TextFault → Type 0
  Meets {A} P Q (Ok x) s = P x ⊎ ((y : A) → s ≡ Ok y → Q x y)
  Meets {A} P Q (Err e) s = (token_offset e ≢ Some at) ⊎ ((y : A) → s ≢ Ok y)

  -- A reader over a stream and over another one. The condition says that the token which was taken before doesn't lie there.
  pub record Alike {A : Type 0} (P : A → Type 0) (Q : A → A → Type 0) (condition : Type 0)
      (f g : Stream → Result A TextFault) : Type 0 where
    pub stays : condition → (s : Stream) → NoneIn at s → StaysAt P (f s)
    pub meets : (s u : Stream) → SharedIn at s u → Meets P Q (f s) (g u)

  -- of the tokens that are left none lies there
  abbrev pub NoneLeft : {X : Type 0} → X × Stream → Type 0
  NoneLeft x = NoneIn at x.1

  -- one value was read, and the tokens that are left are shared
  abbrev pub SharedLeft : {X : Type 0} → X × Stream → X × Stream → Type 0
  SharedLeft x y = (x.0 ≡ y.0) × SharedIn at x.1 y.1

  -- a reader that gives a value and the stream that is left
  abbrev pub ReadsAlike : {X : Type 0} → Type 0 → (f g : Stream → Result (X × Stream) TextFault) → Type 0
  ReadsAlike condition f g = Alike NoneLeft SharedLeft condition f g

  -- one that gives the stream alone
  abbrev pub SkipsAlike : Type 0 → (f g : Stream → Result Stream TextFault) → Type 0
  SkipsAlike condition f g = Alike (NoneIn at) (SharedIn at) condition f g

  -- one after which nothing is read
  abbrev pub EndsAlike : Type 0 → (f g : Stream → Result Stream TextFault) → Type 0
  EndsAlike condition f g = Alike (λ _. Unit {0}) (λ _ _. Unit {0}) condition f g

  -- ---- one step and then the next

  bind_stays : {A B : Type 0} (P : A → Type 0) (R : B → Type 0) (r : Result A TextFault) (h : A → Result B TextFault) → StaysAt P r
      → ((x : A) → P x → StaysAt R (h x)) → StaysAt R (r >>= h)
  bind_stays P R (Ok x) h s more = more x s
  bind_stays P R (Err e) h s more = s

  pub stays_meets : {A : Type 0} (P : A → Type 0) (Q : A → A → Type 0) (r s : Result A TextFault) → StaysAt P r → Meets P Q r s
  stays_meets P Q (Ok x) s h = inl h
  stays_meets P Q (Err e) s h = inl h

  -- the second reading has no value
  pub meets_none : {A : Type 0} (P : A → Type 0) (Q : A → A → Type 0) (r s : Result A TextFault) → ((y : A) → s ≢ Ok y) → Meets P Q r s
  meets_none P Q (Ok x) s none = inr (λ y e. absurd (none y e))
  meets_none P Q (Err e) s none = inr none

  fails_on : {A B : Type 0} (s : Result A TextFault) (k : A → Result B TextFault) → ((y : A) → s ≢ Ok y) → (z : B) → (s >>= k) ≢ Ok z
  fails_on s k none z e = let b = bind_ok s k z e in none b.0 b.1

  module _ {A B : Type 0} (P : A → Type 0) (Q : A → A → Type 0) (R : B → Type 0) (S : B → B → Type 0) (h k : A → Result B TextFault) where
    -- the first step has values that belong together
    bind_both : (x : A) (s : Result A TextFault) → ((y : A) → s ≡ Ok y → Q x y) → ((y : A) → Q x y → Meets R S (h x) (k y))
        → Meets R S (h x) (s >>= k)
    bind_both x (Ok y) same meets = meets y (same y refl)
    bind_both x (Err e) same meets = meets_none R S (h x) (Err e) (λ y is. cc)

    bind_meets : (r s : Result A TextFault) → Meets P Q r s → ((x : A) → P x → StaysAt R (h x))
        → ((x y : A) → Q x y → Meets R S (h x) (k y)) → Meets R S (r >>= h) (s >>= k)
    bind_meets (Ok x) s (inl p) stays meets = stays_meets R S (h x) (s >>= k) (stays x p)
    bind_meets (Ok x) s (inr q) stays meets = bind_both x s q (meets x)
    bind_meets (Err e) s (inl p) stays meets = inl p
    bind_meets (Err e) s (inr none) stays meets = inr (fails_on s k none)

  ok_meets : {X : Type 0} (x : X) (s u : Stream) → SharedIn at s u → Meets NoneLeft SharedLeft (Ok (x, s)) (Ok (x, u))
  ok_meets {X} x s u shared = inr (λ y e. subst (λ (z : X × Stream). SharedLeft (x, s) z) (ok_is (x, u) y e) (refl, shared))

-- ---- readers

module _ {at : ℕ} {condition : Type 0} where
  -- nothing more is read
  pub ok_reads : {X : Type 0} (x : X) → ReadsAlike at condition (λ s. Ok (x, s)) (λ u. Ok (x, u))
  ok_reads x = record { stays = λ c s none. none; meets = λ s u shared. ok_meets at x s u shared }

module _ {at : ℕ} {condition : Type 0} {B : Type 0} {R : B → Type 0} {S : B → B → Type 0} where
  -- what holds on no condition
  pub on_condition : {f g : Stream → Result B TextFault} → Alike at R S (Unit {0}) f g → Alike at R S condition f g
  on_condition a = record { stays = λ c s none. a.stays tt s none; meets = a.meets }

  -- a value, and then the rest
  pub then_reads : {X : Type 0} {f g : Stream → Result (X × Stream) TextFault} (h k : X × Stream → Result B TextFault)
      → ReadsAlike at condition f g
      → ((x : X) → Alike at R S (Unit {0}) (λ s. h (x, s)) (λ u. k (x, u))) → Alike at R S condition (λ s. f s >>= h) (λ u. g u >>= k)
  then_reads {X} {f} {g} h k first more =
      let stays = λ (x : X × Stream) (none : NoneIn at x.1). (more x.0).stays tt x.1 none in
      let meets = λ (x y : X × Stream) (q : (x.0 ≡ y.0) × SharedIn at x.1 y.1). subst (λ (v : X). Meets at R S (h x) (k (v, y.1))) q.0
      ((more x.0).meets x.1 y.1 q.1) in
      record {
        stays = λ c s none. bind_stays at (NoneLeft at) R (f s) h (first.stays c s none) stays;
        meets = λ s u shared. bind_meets at (NoneLeft at) (SharedLeft at) R S h k (f s) (g u) (first.meets s u shared) stays meets;
      }

  -- tokens that are passed over, and then the rest
  pub then_skips : {f g : Stream → Result Stream TextFault} (h k : Stream → Result B TextFault) → SkipsAlike at condition f g
      → Alike at R S (Unit {0}) h k
      → Alike at R S condition (λ s. f s >>= h) (λ u. g u >>= k)
  then_skips {f} {g} h k first more =
      record {
        stays = λ c s none. bind_stays at (NoneIn at) R (f s) h (first.stays c s none) (λ x p. more.stays tt x p);
        meets = λ s u shared. bind_meets at (NoneIn at) (SharedIn at) R S h k (f s) (g u) (first.meets s u shared)
            (λ x p. more.stays tt x p) (λ x y q. more.meets x y q);
      }

  -- a fault at the token which was taken before, or at none
  pub err_reads : (e d : TextFault) → (condition → token_offset e ≢ Some at) → Alike at R S condition (λ s. Err e) (λ u. Err d)
  err_reads e d elsewhere = record { stays = λ c s none. elsewhere c; meets = λ s u shared. inr (λ y is. cc) }

  -- a test of what was taken before
  pub if_reads : (b : Bool) {f g h k : Stream → Result B TextFault} → Alike at R S condition f g → Alike at R S condition h k
      → Alike at R S condition (λ s. cond b (f s) (h s)) (λ u. cond b (g u) (k u))
  if_reads true first second = first
  if_reads false first second = second

  -- a verdict on what was taken before, and then the rest
  pub then_verdict : {J : Type 0} (r s : Result J TextFault) (h k : J → Stream → Result B TextFault)
      → SameVerdict token_offset at condition r s → ((v : J) → Alike at R S condition (h v) (k v))
      → Alike at R S condition (λ x. r >>= λ v. h v x) (λ y. s >>= λ v. k v y)
  then_verdict (Ok v) s h k same more =
      record { stays = λ c x none. (more v).stays c x none; meets = λ x y shared. rw same ((more v).meets x y shared) }
  then_verdict (Err e) s h k same more =
      record { stays = λ c x none. same.0 c; meets = λ x y shared. inr (fails_on at s (λ v. k v y) same.1) }

-- ---- a token, and then the rest

module _ (at : ℕ) {B : Type 0} (R : B → Type 0) (S : B → B → Type 0) (h k : Placed × Stream → Result B TextFault)
    (more : (t : Placed) (n : ℕ) → Alike at R S (t.at ≢ at) (λ s. h (t, s)) (λ u. k (record { text = t.text; at = n }, u))) where
  token_stays : (ts : List Placed) (stop : Result ℕ FeedFault) → NoneAt at ts → EndsElsewhere at stop
      → StaysAt at R (first_of ts stop >>= h)
  token_stays [] stop p e = e
  token_stays (t ∷ ts) stop p e = (more t 0).stays p.0 (record { tokens = ts; stop = stop }) (p.1, e)

  token_meets : (ts us : List Placed) (stop other : Result ℕ FeedFault) → Shared at ts us → EndsElsewhere at stop
      → Meets at R S (first_of ts stop >>= h) (first_of us other >>= k)
  token_meets ts us stop other (Apart p) e = stays_meets at R S (first_of ts stop >>= h) (first_of us other >>= k) (token_stays ts stop p e)
  token_meets ts us stop other (Next {t} {ts = rest} {us = others} n shared) e =
      (more t n).meets (record { tokens = rest; stop = stop }) (record { tokens = others; stop = other }) (shared, e)

pub then_token : {at : ℕ} {condition : Type 0} {B : Type 0} {R : B → Type 0} {S : B → B → Type 0}
    (h k : Placed × Stream → Result B TextFault)
    → ((t : Placed) (n : ℕ) → Alike at R S (t.at ≢ at) (λ s. h (t, s)) (λ u. k (record { text = t.text; at = n }, u)))
    → Alike at R S condition (λ s. token_at s >>= h) (λ u. token_at u >>= k)
unfolding token_at
then_token {at} {R} {S} h k more = record {
  stays = λ c s none. token_stays at R S h k more s.tokens s.stop none.0 none.1;
  meets = λ s u shared. token_meets at R S h k more s.tokens u.tokens s.stop u.stop shared.0 shared.1;
}

-- what is made of one token
pub one_alike : {at : ℕ} {A : Type 0} (make : Placed → Result A TextFault)
    → ((t : Placed) (n : ℕ) → SameVerdict token_offset at (t.at ≢ at) (make t) (make (record { text = t.text; at = n })))
    → ReadsAlike at (Unit {0}) (one_at make) (one_at make)
one_alike make same = then_token _ _ (λ t n. then_verdict (make t) (make (record { text = t.text; at = n })) _ _ (same t n)
    (λ v. ok_reads v))

-- ---- parts up to their end

module _ (at : ℕ) {S X : Type 0} (add : S → X → S) (part : S → Stream → Result (Option X × Stream) TextFault)
    (alike : (kept : S) → ReadsAlike at (Unit {0}) (part kept) (part kept)) where
  abbrev more_of : ℕ → S → Option X × Stream → Result (S × Stream) TextFault
  more_of n kept x = collected_then add kept x.1 (λ now. up_to_end add part n now x.1) x.0

  more_stays : (n : ℕ) (kept : S) → ((now : S) (s : Stream) → NoneIn at s → StaysAt at (NoneLeft at) (up_to_end add part n now s))
      → (x : Option X) (s : Stream) → NoneIn at s → StaysAt at (NoneLeft at) (more_of n kept (x, s))
  more_stays n kept rest None s none = none
  more_stays n kept rest (Some x) s none = rest (add kept x) s none

  parts_stay : (n : ℕ) (kept : S) (s : Stream) → NoneIn at s → StaysAt at (NoneLeft at) (up_to_end add part n kept s)
  unfolding up_to_end
  parts_stay zero kept s none = none.1
  parts_stay (suc n) kept s none =
      bind_stays at (NoneLeft at) (NoneLeft at) (part kept s) (more_of n kept) ((alike kept).stays tt s none)
      (λ x p. more_stays n kept (parts_stay n) x.0 x.1 p)

  more_meets : (n m : ℕ) (kept : S)
      → ((now : S) (s u : Stream) → SharedIn at s u → Meets at (NoneLeft at) (SharedLeft at) (up_to_end add part n now s)
      (up_to_end add part m now u))
      → (x : Option X) (s u : Stream) → SharedIn at s u → Meets at (NoneLeft at) (SharedLeft at) (more_of n kept (x, s))
      (more_of m kept (x, u))
  more_meets n m kept rest None s u shared = ok_meets at kept s u shared
  more_meets n m kept rest (Some x) s u shared = rest (add kept x) s u shared

  pub parts_meet : (n m : ℕ) (kept : S) (s u : Stream) → SharedIn at s u → Meets at (NoneLeft at) (SharedLeft at)
      (up_to_end add part n kept s) (up_to_end add part m kept u)
  unfolding up_to_end
  parts_meet zero m kept s u shared = inl shared.1
  parts_meet (suc n) zero kept s u shared = meets_none at (NoneLeft at) (SharedLeft at) (up_to_end add part (suc n) kept s)
      (up_to_end add part zero kept u) (λ y e. cc)
  parts_meet (suc n) (suc m) kept s u shared =
      bind_meets at (NoneLeft at) (SharedLeft at) (NoneLeft at) (SharedLeft at) (more_of n kept) (more_of m kept) (part kept s)
      (part kept u) ((alike kept).meets s u shared)
      (λ x p. more_stays n kept (parts_stay n) x.0 x.1 p)
      (λ x y q. subst (λ (v : Option X). Meets at (NoneLeft at) (SharedLeft at) (more_of n kept x) (more_of m kept (v, y.1))) q.0
      (more_meets n m kept (parts_meet n m) x.0 x.1 y.1 q.1))

  -- as many parts as the stream may have
  pub all_alike : (kept : S) → ReadsAlike at (Unit {0}) (λ s. up_to_end add part (suc (length s.tokens)) kept s)
      (λ u. up_to_end add part (suc (length u.tokens)) kept u)
  all_alike kept = record {
    stays = λ c s none. parts_stay (suc (length s.tokens)) kept s none;
    meets = λ s u shared. parts_meet (suc (length s.tokens)) (suc (length u.tokens)) kept s u shared;
  }

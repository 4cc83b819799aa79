-- A reader that takes tokens from left to right, compared with itself over other tokens: if it fails at a token that both share, it
-- fails over both.
use Rattle.std.proofs.Common.{◌≡◌, ◌≢◌, ◌⊎◌, inl, inr, ℕ, Bool, true, false, cond, List, [], ◌∷◌, Option, Some, None, Result, Ok, Err, refl, sym, subst}
use Rattle.tt_text.specs.Tokens.{Placed}
use Rattle.tt_text.specs.Reading.{◌>>=◌, token_or}
use Rattle.tt_text.proofs.Steps.{bind_ok}

-- ---- tokens

-- no token begins at this offset
abbrev pub NoneAt : ℕ → List Placed → Type 0
NoneAt at [] = Unit {0}
NoneAt at (t ∷ ts) = (t.at ≢ at) × NoneAt at ts

-- the other tokens have the same texts as these, as long as one of these is left that begins at this offset
pub data Shared (at : ℕ) : List Placed → List Placed → Type 0 where
  Apart : {ts us : List Placed} → NoneAt at ts → Shared at ts us
  Next : {t : Placed} {ts us : List Placed} (n : ℕ) → Shared at ts us → Shared at (t ∷ ts) (record { text = t.text; at = n } ∷ us)

-- a fault reported at another token
pub other_offset : (at a : ℕ) → a ≢ at → (let o : Option ℕ = Some a in o) ≢ Some at
other_offset at a not e = not cc

-- -- the results of both readings

module _ {F : Type 0} (offset_of : F → Option ℕ) (at : ℕ) where
  -- if no token begins at the offset, no fault is reported there
  abbrev pub Stays : {A : Type 0} → (A → Type 0) → Result A F → Type 0
  Stays P (Ok x) = P x
  Stays P (Err e) = offset_of e ≢ Some at

  -- over shared tokens: both give the same, or neither gives a value, or the first is past the token at the offset
  abbrev pub Joins : {A : Type 0} → (A → Type 0) → (A → A → Type 0) → Result A F → Result A F → Type 0
  Joins {A} P Q (Ok x) s = P x ⊎ ((y : A) × (s ≡ Ok y) × Q x y)
  Joins {A} P Q (Err e) s = (offset_of e ≢ Some at) ⊎ ((y : A) → s ≢ Ok y)

  -- A reader over these tokens and over others. The condition says that the token taken before doesn't begin at the offset.
  pub record Alike {A : Type 0} (P : A → Type 0) (Q : A → A → Type 0) (condition : Type 0) (f g : List Placed → Result A F) : Type 0 where
    pub stays : condition → (ts : List Placed) → NoneAt at ts → Stays P (f ts)
    pub joins : (ts us : List Placed) → Shared at ts us → Joins P Q (f ts) (g us)

  -- none of the tokens left begins at the offset
  abbrev pub NoneLeft : {X : Type 0} → X × List Placed → Type 0
  NoneLeft x = NoneAt at x.1

  -- both read the same value, and the tokens left are shared
  abbrev pub SharedLeft : {X : Type 0} → X × List Placed → X × List Placed → Type 0
  SharedLeft x y = (x.0 ≡ y.0) × Shared at x.1 y.1

  -- a reader that gives a value and the tokens that are left
  abbrev pub ReadsAlike : {X : Type 0} → Type 0 → (f g : List Placed → Result (X × List Placed) F) → Type 0
  ReadsAlike condition f g = Alike NoneLeft SharedLeft condition f g

  -- a reader that gives only the tokens that are left
  abbrev pub SkipsAlike : Type 0 → (f g : List Placed → Result (List Placed) F) → Type 0
  SkipsAlike condition f g = Alike (NoneAt at) (Shared at) condition f g

  -- a reader after which nothing is read
  abbrev pub EndsAlike : {X : Type 0} → Type 0 → (f g : List Placed → Result X F) → Type 0
  EndsAlike condition f g = Alike (λ _. Unit {0}) (λ _ _. Unit {0}) condition f g

  -- two verdicts on a token: the same value, or neither has a value
  abbrev pub SameVerdict : {J : Type 0} → Type 0 → Result J F → Result J F → Type 0
  SameVerdict condition (Ok v) s = s ≡ Ok v
  SameVerdict {J} condition (Err e) s = (condition → offset_of e ≢ Some at) × ((v : J) → s ≢ Ok v)

  -- -- one step and then the next

  bind_stays : {A B : Type 0} (P : A → Type 0) (R : B → Type 0) (r : Result A F) (h : A → Result B F) → Stays P r
      → ((x : A) → P x → Stays R (h x)) → Stays R (r >>= h)
  bind_stays P R (Ok x) h s more = more x s
  bind_stays P R (Err e) h s more = s

  pub stays_joins : {A : Type 0} (P : A → Type 0) (Q : A → A → Type 0) (r s : Result A F) → Stays P r → Joins P Q r s
  stays_joins P Q (Ok x) s h = inl h
  stays_joins P Q (Err e) s h = inl h

  fails_on : {A B : Type 0} (s : Result A F) (k : A → Result B F) → ((y : A) → s ≢ Ok y) → (z : B) → (s >>= k) ≢ Ok z
  fails_on s k none z e = let b = bind_ok s k z e in none b.0 b.1

  module _ {A B : Type 0} (P : A → Type 0) (Q : A → A → Type 0) (R : B → Type 0) (S : B → B → Type 0) (h k : A → Result B F) where
    bind_joins : (r s : Result A F) → Joins P Q r s → ((x : A) → P x → Stays R (h x)) → ((x y : A) → Q x y → Joins R S (h x) (k y))
        → Joins R S (r >>= h) (s >>= k)
    bind_joins (Ok x) s (inl p) stays joins = stays_joins R S (h x) (s >>= k) (stays x p)
    bind_joins (Ok x) s (inr q) stays joins = subst (λ (o : Result A F). Joins R S (h x) (o >>= k)) (sym q.1) (joins x q.0 q.2)
    bind_joins (Err e) s (inl p) stays joins = inl p
    bind_joins (Err e) s (inr none) stays joins = inr (fails_on s k none)

  pub ok_joins : {X : Type 0} (x : X) (ts us : List Placed) → Shared at ts us → Joins NoneLeft SharedLeft (Ok (x, ts)) (Ok (x, us))
  ok_joins x ts us (Apart none) = inl none
  ok_joins x ts us (Next n more) = inr (_, refl, (refl, Next n more))

  ok_skip_joins : (ts us : List Placed) → Shared at ts us → Joins (NoneAt at) (Shared at) (Ok ts) (Ok us)
  ok_skip_joins ts us (Apart none) = inl none
  ok_skip_joins ts us (Next n more) = inr (_, refl, Next n more)

-- ---- readers

module _ {F : Type 0} {offset_of : F → Option ℕ} {at : ℕ} {condition : Type 0} where
  -- nothing more is read
  pub ok_reads : {X : Type 0} (x : X) → ReadsAlike offset_of at condition (λ ts. Ok (x, ts)) (λ us. Ok (x, us))
  ok_reads x = record { stays = λ c ts none. none; joins = λ ts us shared. ok_joins offset_of at x ts us shared }

  pub ok_skips : SkipsAlike offset_of at condition (λ ts. Ok ts) (λ us. Ok us)
  ok_skips = record { stays = λ c ts none. none; joins = λ ts us shared. ok_skip_joins offset_of at ts us shared }

  pub ok_ends : {X : Type 0} (x y : X) → EndsAlike offset_of at condition (λ ts. Ok x) (λ us. Ok y)
  ok_ends x y = record { stays = λ c ts none. tt; joins = λ ts us shared. inl tt }

module _ {F : Type 0} {offset_of : F → Option ℕ} {at : ℕ} {condition : Type 0} {B : Type 0} {R : B → Type 0} {S : B → B → Type 0} where
  -- readers that are alike on no condition are alike on this one
  pub on_condition : {f g : List Placed → Result B F} → Alike offset_of at R S (Unit {0}) f g → Alike offset_of at R S condition f g
  on_condition a = record { stays = λ c ts none. a.stays tt ts none; joins = a.joins }

  -- reading a value, and then the rest
  pub then_reads : {X : Type 0} {f g : List Placed → Result (X × List Placed) F} (h k : X × List Placed → Result B F)
      → ReadsAlike offset_of at condition f g
      → ((x : X) → Alike offset_of at R S (Unit {0}) (λ ts. h (x, ts)) (λ us. k (x, us))) → Alike offset_of at R S condition
      (λ ts. f ts >>= h) (λ us. g us >>= k)
  then_reads {X} {f} {g} h k first more =
      let stays = λ (x : X × List Placed) (none : NoneAt at x.1). (more x.0).stays tt x.1 none in
      let joins = λ (x y : X × List Placed) (q : (x.0 ≡ y.0) × Shared at x.1 y.1). subst
      (λ (v : X). Joins offset_of at R S (h x) (k (v, y.1))) q.0 ((more x.0).joins x.1 y.1 q.1) in
      record {
        stays = λ c ts none. bind_stays offset_of at (NoneLeft offset_of at) R (f ts) h (first.stays c ts none) stays;
        joins = λ ts us shared. bind_joins offset_of at (NoneLeft offset_of at) (SharedLeft offset_of at) R S h k (f ts) (g us)
            (first.joins ts us shared) stays joins;
      }

  -- passing over tokens, and then the rest
  pub then_skips : {f g : List Placed → Result (List Placed) F} (h k : List Placed → Result B F) → SkipsAlike offset_of at condition f g
      → Alike offset_of at R S (Unit {0}) h k
      → Alike offset_of at R S condition (λ ts. f ts >>= h) (λ us. g us >>= k)
  then_skips {f} {g} h k first more =
      record {
        stays = λ c ts none. bind_stays offset_of at (NoneAt at) R (f ts) h (first.stays c ts none) (λ x p. more.stays tt x p);
        joins = λ ts us shared. bind_joins offset_of at (NoneAt at) (Shared at) R S h k (f ts) (g us) (first.joins ts us shared)
            (λ x p. more.stays tt x p) (λ x y q. more.joins x y q);
      }

  -- a fault reported at the token taken before, or at no token
  pub err_reads : (e d : F) → (condition → offset_of e ≢ Some at) → Alike offset_of at R S condition (λ ts. Err e) (λ us. Err d)
  err_reads e d elsewhere = record { stays = λ c ts none. elsewhere c; joins = λ ts us shared. inr (λ y is. cc) }

  -- a test of the token taken before
  pub if_reads : (b : Bool) {f g h k : List Placed → Result B F} → Alike offset_of at R S condition f g
      → Alike offset_of at R S condition h k
      → Alike offset_of at R S condition (λ ts. cond b (f ts) (h ts)) (λ us. cond b (g us) (k us))
  if_reads true first second = first
  if_reads false first second = second

  -- a verdict on the token taken before, and then the rest
  pub then_verdict : {J : Type 0} (r s : Result J F) (h k : J → List Placed → Result B F) → SameVerdict offset_of at condition r s
      → ((v : J) → Alike offset_of at R S condition (h v) (k v))
      → Alike offset_of at R S condition (λ ts. r >>= λ v. h v ts) (λ us. s >>= λ v. k v us)
  then_verdict (Ok v) s h k same more =
      record { stays = λ c ts none. (more v).stays c ts none; joins = λ ts us shared. rw same ((more v).joins ts us shared) }
  then_verdict (Err e) s h k same more =
      record { stays = λ c ts none. same.0 c; joins = λ ts us shared. inr (fails_on offset_of at s (λ v. k v us) same.1) }

-- reading a token, and then the rest
module _ {F : Type 0} (offset_of : F → Option ℕ) (at : ℕ) {B : Type 0} (R : B → Type 0) (S : B → B → Type 0) (none other : F)
    (h k : Placed × List Placed → Result B F) (ended : offset_of none ≡ None)
    (more : (t : Placed) (n : ℕ) → Alike offset_of at R S (t.at ≢ at) (λ ts. h (t, ts))
    (λ us. k (record { text = t.text; at = n }, us))) where
  token_stays : (ts : List Placed) → NoneAt at ts → Stays offset_of at R (token_or none ts >>= h)
  unfolding token_or
  token_stays [] p = λ e. cc
  token_stays (t ∷ ts) p = (more t 0).stays p.0 ts p.1

  token_joins : (ts us : List Placed) → Shared at ts us → Joins offset_of at R S (token_or none ts >>= h) (token_or other us >>= k)
  unfolding token_or
  token_joins ts us (Apart p) = stays_joins offset_of at R S (token_or none ts >>= h) (token_or other us >>= k) (token_stays ts p)
  token_joins ts us (Next {t} {ts = rest} {us = others} n shared) = (more t n).joins rest others shared

pub then_token : {F : Type 0} {offset_of : F → Option ℕ} {at : ℕ} {condition : Type 0} {B : Type 0} {R : B → Type 0}
    {S : B → B → Type 0} (none other : F) (h k : Placed × List Placed → Result B F)
    → offset_of none ≡ None
    → ((t : Placed) (n : ℕ) → Alike offset_of at R S (t.at ≢ at) (λ ts. h (t, ts)) (λ us. k (record { text = t.text; at = n }, us)))
    → Alike offset_of at R S condition (λ ts. token_or none ts >>= h) (λ us. token_or other us >>= k)
then_token {offset_of} {at} {R} {S} none other h k ended more = record {
  stays = λ c ts p. token_stays offset_of at R S none other h k ended more ts p;
  joins = λ ts us shared. token_joins offset_of at R S none other h k ended more ts us shared;
}

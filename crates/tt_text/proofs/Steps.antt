-- Steps of a reading: those that fail, and those that don't.
use Rattle.std.proofs.Common.{◌≡◌, Bool, true, false, cond, List, [], ◌∷◌, ◌++◌, Result, Ok, Err, refl, sym, ap, subst, ◌∙◌, append_assoc}
use Rattle.std.specs.Bool.{OnFalse}
use Rattle.tt_text.specs.Tokens.{Placed}
use Rattle.tt_text.specs.Pieces.{Piece, Begins}
use Rattle.tt_text.specs.Reading.{◌>>=◌, FailsUnless, token_or}

module _ {F : Type 0} where
  abbrev pub done : {A : Type 0} → A → Result A F
  done x = Ok x

  pub ok_is : {A : Type 0} (x y : A) → done x ≡ done y → x ≡ y
  ok_is x y e = cc

  -- if the first step has a fault, both steps together have the same fault
  pub fails_then : {A B : Type 0} (silent : F → Bool) (e : F) (r : Result A F) (f : A → Result B F) → FailsUnless silent e r
      → FailsUnless silent e (r >>= f)
  fails_then silent e r f h = by_test (silent e) h
    where
      by_test : (b : Bool) → OnFalse b (r ≡ Err e) → OnFalse b ((r >>= f) ≡ Err e)
      by_test true h = tt
      by_test false h = rw h refl

  pub fails_as : {A : Type 0} (silent : F → Bool) (e : F) (r s : Result A F) → r ≡ s → FailsUnless silent e r → FailsUnless silent e s
  fails_as {A} silent e r s same h = subst (λ (q : Result A F). FailsUnless silent e q) same h

  -- the value of a step that didn't fail
  pub bind_ok : {A B : Type 0} (r : Result A F) (f : A → Result B F) (y : B) → (r >>= f) ≡ Ok y → (x : A) × (r ≡ Ok x) × (f x ≡ Ok y)
  bind_ok (Ok x) f y e = (x, refl, e)
  bind_ok (Err d) f y e = absurd cc

  -- a step that didn't fail, and then the other steps
  pub bind_is : {A B : Type 0} (r : Result A F) (x : A) (f : A → Result B F) (z : Result B F) → r ≡ Ok x → f x ≡ z → (r >>= f) ≡ z
  bind_is {A} r x f z e h = ap (λ (q : Result A F). q >>= f) e ∙ h

  -- a test that passes, and one that fails
  pub test_ok : {A : Type 0} (b : Bool) (d : F) (r : Result A F) (y : A) → cond b r (Err d) ≡ Ok y → (b ≡ true) × (r ≡ Ok y)
  test_ok true d r y e = (refl, e)
  test_ok false d r y e = absurd cc

  pub refusal_ok : {A : Type 0} (b : Bool) (d : F) (r : Result A F) (y : A) → cond b (Err d) r ≡ Ok y → (b ≡ false) × (r ≡ Ok y)
  refusal_ok true d r y e = absurd cc
  refusal_ok false d r y e = (refl, e)

  pub token_takes : (none : F) (ts : List Placed) (t : Placed × List Placed) → token_or none ts ≡ Ok t → ts ≡ t.0 ∷ t.1
  unfolding token_or
  token_takes none [] t e = absurd cc
  token_takes none (x ∷ xs) t e = ap (λ (p : Placed × List Placed). p.0 ∷ p.1) (ok_is (x, xs) t e)

-- After these pieces the tokens are those of `mid`.
pub record Takes (ts : List Placed) (ps : List Piece) (mid : List Placed) : Type 0 where
  pub take : (qs : List Piece) (rest : List Placed) → Begins qs mid rest → Begins (ps ++ qs) ts rest

pub takes_then : (ts mid last : List Placed) (ps qs : List Piece) → Takes ts ps mid → Takes mid qs last → Takes ts (ps ++ qs) last
takes_then ts mid last ps qs p q = record {
  take = λ rs rest h. subst (λ (xs : List Piece). Begins xs ts rest) (sym (append_assoc ps qs rs))
      (p.take (qs ++ rs) rest (q.take rs rest h));
}

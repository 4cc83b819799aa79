-- Single tokens: the token read is a piece of the file, and a piece of the file is read.
use Rattle.std.proofs.Common.{◌≡◌, ℕ, ◌≤◌, Bool, true, false, cond, leb, List, [], ◌∷◌, Result, Ok, Err, refl, sym, ap, subst, arith}
use Rattle.std.specs.Cmp.Lexicographic.{same_text}
use Rattle.std.proofs.lemmas.Cmp.{nat_list_eq_equiv}
use Rattle.std.proofs.lemmas.Bool.{leb-true, le-leb}
use Rattle.tt_text.specs.Tokens.{Placed}
use Rattle.tt_text.specs.Texts.{is_text}
use Rattle.tt_text.specs.Numbers.{is_number_text, value_on, number_of}
use Rattle.tt_text.specs.declared.numbers.NumberFault.{NumberFault}
use Rattle.tt_text.specs.declared.numbers.NumberFault.TheVariants.{NotANumber, TooLarge}
use Rattle.tt_text.specs.Pieces.{Piece, SpellsNumber, IsPiece, Begins}
use Rattle.tt_text.specs.Reading.{token_or}
use Rattle.tt_text.proofs.Steps.{Takes, token_takes}

-- the result is this value, and the remaining tokens begin with these pieces
pub record ReadsOn {F A : Type 0} (read : Result (A × List Placed) F) (value : A) (qs : List Piece) (rest : List Placed) : Type 0 where
  pub mid : List Placed
  pub is : read ≡ Ok (value, mid)
  pub left : Begins qs mid rest

-- the next token is this piece, and the tokens after it begin with these pieces
pub record HasPiece {F : Type 0} (none : F) (ts : List Placed) (p : Piece) (qs : List Piece) (rest : List Placed) : Type 0 where
  pub token : Placed × List Placed
  pub is : token_or none ts ≡ Ok token
  pub piece : IsPiece p token.0.text
  pub left : Begins qs token.1 rest

module _ {F : Type 0} where
  -- a token that was read is a piece
  pub takes_piece : (none : F) (ts : List Placed) (t : Placed × List Placed) (p : Piece) → token_or none ts ≡ Ok t → IsPiece p t.0.text
      → Takes ts (p ∷ []) t.1
  takes_piece none ts t p e piece = record {
    take = λ qs rest h. subst (λ (xs : List Placed). Begins (p ∷ qs) xs rest) (sym (token_takes none ts t e)) (piece, h);
  }

  -- tokens that begin with a piece have a first token
  pub has_piece : (none : F) (ts : List Placed) (p : Piece) (qs : List Piece) (rest : List Placed) → Begins (p ∷ qs) ts rest
      → HasPiece none ts p qs rest
  unfolding token_or
  has_piece none [] p qs rest h = absurd h
  has_piece none (t ∷ ts) p qs rest h = record { token = (t, ts); is = refl; piece = h.0; left = h.1 }

-- ---- texts

-- two texts that pass the test are equal
pub text_is : (x y : List ℕ) → is_text y x ≡ true → x ≡ y
text_is x y e = sym (same_text y x (sym e))

-- a text passes the test with itself
pub is_text_of : (x y : List ℕ) → x ≡ y → is_text y x ≡ true
is_text_of x y e = subst (λ (z : List ℕ). is_text y z ≡ true) (sym e) (nat_list_eq_equiv.refl y)

-- ---- numbers

-- if the two tests of a number give a value, both pass
reported : (a b : Bool) (v n : ℕ) → cond a (cond b (Ok v) (Err TooLarge)) (Err NotANumber) ≡ Ok n → (a ≡ true) × (b ≡ true) × (v ≡ n)
reported true true v n e = (refl, refl, cc)
reported true false v n e = absurd cc
reported false b v n e = absurd cc

-- digits that were read spell their number, and it is within the limit
pub number_spelled : (limit : ℕ) (text : List ℕ) (n : ℕ) → number_of limit text ≡ Ok n → SpellsNumber text n × (n ≤ limit)
unfolding number_of
number_spelled limit text n e =
    let h = reported (is_number_text text) (leb (value_on 0 text) limit) (value_on 0 text) n e in
    (record { digits_only = h.0; value = h.2 }, omega (arith, leb-true _ _ h.1, h.2))

-- digits that spell a number within the limit are read as that number
pub number_read : (limit : ℕ) (text : List ℕ) (n : ℕ) → SpellsNumber text n → n ≤ limit → number_of limit text ≡ Ok n
unfolding number_of
number_read limit text n spelled within =
    let small : leb (value_on 0 text) limit ≡ true = le-leb _ _ (omega (arith, spelled.value, within)) in
    rw (spelled.digits_only, small) (ap (λ (m : ℕ). let r : Result ℕ NumberFault = Ok m in r) spelled.value)

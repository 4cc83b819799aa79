-- Single fields: the token read is a piece of the file, and a piece of the file is read.
use Rattle.std.proofs.Common.{◌≡◌, ℕ, ◌-◌, ◌<◌, ◌≤◌, Bool, true, false, cond, List, [], ◌∷◌, Result, Ok, Err, refl, subst, arith}
use Rattle.tt_text.specs.Tokens.{Placed}
use Rattle.tt_text.specs.Texts.{is_text}
use Rattle.tt_text.specs.Numbers.{number_of}
use Rattle.tt_text.specs.Pieces.{Piece, Text, Number, Begins}
use Rattle.tt_text.specs.Reading.{◌>>=◌}
use Rattle.tt_text.specs.declared.numbers.NumberFault.{NumberFault}
use Rattle.tt_text.specs.declared.numbers.NumberFault.TheVariants as number
use Rattle.tt_text.proofs.Steps.{ok_is, bind_ok, test_ok, Takes}
use Rattle.tt_text.proofs.Fields.{ReadsOn, takes_piece, has_piece, text_is, is_text_of, number_spelled, number_read}
use Rattle.tt_instance_read.specs.declared.fault.Word.{Word}
use Rattle.tt_instance_read.specs.declared.fault.InstanceFault.{InstanceFault}
use Rattle.tt_instance_read.specs.declared.fault.InstanceFault.TheVariants as fault
use Rattle.tt_instance_read.specs.Words.{word_text, fixed}
use Rattle.tt_instance_read.specs.Reading.{token_at, word_at, numbered, ranged, limited_at, below_at}

-- a guard that passed
pub guard_passed : {A : Type 0} (b : Bool) (d : InstanceFault) (f : Unit {0} → Result A InstanceFault) (y : A)
    → (cond b (Err d) (Ok tt) >>= f) ≡ Ok y → (b ≡ false) × (f tt ≡ Ok y)
guard_passed true d f y e = absurd cc
guard_passed false d f y e = (refl, e)

-- ---- a token

-- a token that was read is its text
pub text_takes : (end : ℕ) (ts : List Placed) (t : Placed × List Placed) → token_at end ts ≡ Ok t → Takes ts (Text t.0.text ∷ []) t.1
text_takes end ts t e = takes_piece (fault.Ended end) ts t (Text t.0.text) e refl

-- ---- a fixed word

-- a fixed word that was read is spelled
pub word_takes : (end : ℕ) (w : Word) (ts mid : List Placed) → word_at end w ts ≡ Ok mid → Takes ts (fixed w ∷ []) mid
unfolding word_at
word_takes end w ts mid e =
    let a = bind_ok (token_at end ts) (λ t. cond (is_text (word_text w) t.0.text) (Ok t.1) (Err (fault.Expected w t.0.at))) mid e in
    let g = test_ok (is_text (word_text w) a.0.0.text) (fault.Expected w a.0.0.at) (Ok a.0.1) mid a.2 in
    subst (Takes ts (fixed w ∷ [])) (ok_is a.0.1 mid g.1)
    (takes_piece (fault.Ended end) ts a.0 (fixed w) a.1 (text_is a.0.0.text (word_text w) g.0))

-- the next token is this word, and the tokens after it begin with these pieces
pub record HasWord (end : ℕ) (w : Word) (ts : List Placed) (qs : List Piece) (rest : List Placed) : Type 0 where
  pub mid : List Placed
  pub is : word_at end w ts ≡ Ok mid
  pub left : Begins qs mid rest

-- a fixed word that is spelled is read
pub has_word : (end : ℕ) (w : Word) (ts : List Placed) (qs : List Piece) (rest : List Placed) → Begins (fixed w ∷ qs) ts rest
    → HasWord end w ts qs rest
unfolding word_at
has_word end w ts qs rest h =
    let a = has_piece (fault.Ended end) ts (fixed w) qs rest h in
    let is : is_text (word_text w) a.token.0.text ≡ true = is_text_of a.token.0.text (word_text w) a.piece in
    record { mid = a.token.1; is = rw (a.is, is) refl; left = a.left }

-- ---- a number

-- a number that was read up to a limit is a number
pub numbered_ok : (at : ℕ) (r : Result ℕ NumberFault) (n : ℕ) → numbered at r ≡ Ok n → r ≡ Ok n
numbered_ok at (Ok m) n e = cc
numbered_ok at (Err number.NotANumber) n e = absurd cc
numbered_ok at (Err number.TooLarge) n e = absurd cc

-- a number that was read below a bound is a number
ranged_ok : (at : ℕ) (r : Result ℕ NumberFault) (n : ℕ) → ranged at r ≡ Ok n → r ≡ Ok n
ranged_ok at (Ok m) n e = cc
ranged_ok at (Err number.NotANumber) n e = absurd cc
ranged_ok at (Err number.TooLarge) n e = absurd cc

-- a number that was read up to a limit is spelled, and it is within the limit
pub limited_takes : (end limit : ℕ) (ts : List Placed) (x : ℕ × List Placed) → limited_at end limit ts ≡ Ok x
    → Takes ts (Number x.0 ∷ []) x.1 × (x.0 ≤ limit)
unfolding limited_at
limited_takes end limit ts x e =
    let t = bind_ok (token_at end ts) (λ t. numbered t.0.at (number_of limit t.0.text) >>= λ n. Ok (n, t.1)) x e in
    let n = bind_ok (numbered t.0.0.at (number_of limit t.0.0.text)) (λ n. Ok (n, t.0.1)) x t.2 in
    let s = number_spelled limit t.0.0.text n.0 (numbered_ok t.0.0.at _ n.0 n.1) in
    subst (λ (y : ℕ × List Placed). Takes ts (Number y.0 ∷ []) y.1 × (y.0 ≤ limit)) (ok_is (n.0, t.0.1) x n.2)
    (takes_piece (fault.Ended end) ts t.0 (Number n.0) t.1 s.0, s.1)

-- a number within the limit that is spelled is read
pub limited_reads : (end limit : ℕ) (ts : List Placed) (n : ℕ) (qs : List Piece) (rest : List Placed) → n ≤ limit
    → Begins (Number n ∷ qs) ts rest → ReadsOn (limited_at end limit ts) n qs rest
unfolding limited_at
limited_reads end limit ts n qs rest within h =
    let a = has_piece (fault.Ended end) ts (Number n) qs rest h in
    record { mid = a.token.1; is = rw (a.is, number_read limit a.token.0.text n a.piece within) refl; left = a.left }

-- a number that was read below a bound is spelled, and it is below the bound
pub below_takes : (end bound : ℕ) (ts : List Placed) (x : ℕ × List Placed) → 0 < bound → below_at end bound ts ≡ Ok x
    → Takes ts (Number x.0 ∷ []) x.1 × (x.0 < bound)
unfolding below_at
below_takes end bound ts x some e =
    let t = bind_ok (token_at end ts) (λ t. ranged t.0.at (number_of (bound - 1) t.0.text) >>= λ n. Ok (n, t.1)) x e in
    let n = bind_ok (ranged t.0.0.at (number_of (bound - 1) t.0.0.text)) (λ n. Ok (n, t.0.1)) x t.2 in
    let s = number_spelled (bound - 1) t.0.0.text n.0 (ranged_ok t.0.0.at _ n.0 n.1) in
    let below : n.0 < bound = omega (arith, s.1) in
    subst (λ (y : ℕ × List Placed). Takes ts (Number y.0 ∷ []) y.1 × (y.0 < bound)) (ok_is (n.0, t.0.1) x n.2)
    (takes_piece (fault.Ended end) ts t.0 (Number n.0) t.1 s.0, below)

-- a number below the bound that is spelled is read
pub below_reads : (end bound : ℕ) (ts : List Placed) (n : ℕ) (qs : List Piece) (rest : List Placed) → n < bound
    → Begins (Number n ∷ qs) ts rest → ReadsOn (below_at end bound ts) n qs rest
unfolding below_at
below_reads end bound ts n qs rest within h =
    let a = has_piece (fault.Ended end) ts (Number n) qs rest h in
    record { mid = a.token.1; is = rw (a.is, number_read (bound - 1) a.token.0.text n a.piece (omega arith)) refl; left = a.left }

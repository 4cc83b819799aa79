-- What a reader's result says about the text: a value, or the first fault from the left.
use Rattle.std.specs.Prelude.{◌≡◌, Bool, Result, Ok, Err, List, [], ◌∷◌}
use Rattle.std.specs.Bool.{OnFalse}
use Rattle.tt_text.specs.Tokens.{Placed}

infixl 10 ◌>>=◌
-- One step and then the next, up to the first fault.
abbrev pub ◌>>=◌ : {A B F : Type 0} → Result A F → (A → Result B F) → Result B F
(Ok x) >>= f = f x
(Err e) >>= f = Err e

-- The text has exactly this fault. A silent fault, such as being out of memory, says nothing about the text.
abbrev pub FailsUnless : {Y F : Type 0} → (F → Bool) → F → Result Y F → Type 0
FailsUnless silent e read = OnFalse (silent e) (read ≡ Err e)

-- The result, seen by `view`, is what the text gives, except for silent faults.
abbrev pub AgreesUnless : {X Y F : Type 0} → (F → Bool) → (X → Y) → Result X F → Result Y F → Type 0
AgreesUnless silent view (Ok x) read = read ≡ Ok (view x)
AgreesUnless silent view (Err e) read = FailsUnless silent e read

-- The next token, or this fault if no token is left.
unfoldable pub token_or : {F : Type 0} → F → List Placed → Result (Placed × List Placed) F
token_or none [] = Err none
token_or none (t ∷ ts) = Ok (t, ts)

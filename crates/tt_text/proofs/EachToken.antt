-- Each token of a text satisfies `IsToken`, and so does each text among the pieces that the tokens begin with.
use Rattle.std.proofs.Common.{◌≡◌, ℕ, ◌+◌, Bool, true, false, List, [], ◌∷◌, take, refl, sym, subst, arith}
use Rattle.std.specs.List.{prefix_len, AllByRecursion}
use Rattle.tt_text.specs.Tokens.{is_separator, in_token, Placed, tokens_from, tokens_of, IsToken}
use Rattle.tt_text.specs.Pieces.{Piece, Text, Number, Index, IsPiece, Begins}
use Rattle.tt_text.proofs.Runs.{is_a_token}

-- the run of bytes from the first byte of a token satisfies `IsToken`
begun : (b : ℕ) (bs : List ℕ) → is_separator b ≡ false → IsToken (take (prefix_len in_token (b ∷ bs)) (b ∷ bs))
begun b bs e = is_a_token (prefix_len in_token (b ∷ bs)) (b ∷ bs) _ refl refl
    (let some : prefix_len in_token (b ∷ bs) ≡ 1 + prefix_len in_token bs = rw e refl in omega arith)

-- each element satisfies `IsToken`
abbrev AreAll : List Placed → Type 0
AreAll ts = AllByRecursion (λ t. IsToken t.text) ts

-- another byte in front
step : (inside : Bool) (at b : ℕ) (bs : List ℕ) (v : Bool) → is_separator b ≡ v
    → ((into : Bool) → AreAll (tokens_from into (at + 1) bs)) → AreAll (tokens_from inside at (b ∷ bs))
unfolding tokens_from
step inside at b bs true e more = rw e (more false)
step true at b bs false e more = rw e (more true)
step false at b bs false e more =
    let made : Placed = record { text = take (prefix_len in_token (b ∷ bs)) (b ∷ bs); at = at } in
    let first : tokens_from false at (b ∷ bs) ≡ made ∷ tokens_from true (at + 1) bs = rw e refl in
    subst AreAll (sym first) (begun b bs e, more true)

-- from an offset on, inside a token or not
from : (inside : Bool) (at : ℕ) (bytes : List ℕ) → AreAll (tokens_from inside at bytes)
unfolding tokens_from
from inside at [] = tt
from inside at (b ∷ bs) = step inside at b bs (is_separator b) refl (λ into. from into (at + 1) bs)

-- each token of a text satisfies `IsToken`
pub each_token : (bytes : List ℕ) → AllByRecursion (λ t. IsToken t.text) (tokens_of bytes)
each_token bytes = from false 0 bytes

-- if the piece is a text, it is a token
abbrev pub IsTokenPiece : Piece → Type 0
IsTokenPiece (Text text) = IsToken text
IsTokenPiece (Number n) = Unit {0}
IsTokenPiece (Index letter n) = Unit {0}

-- a text piece that has a token's bytes is a token
piece_token : (p : Piece) (text : List ℕ) → IsPiece p text → IsToken text → IsTokenPiece p
piece_token (Text x) text is token = subst IsToken is token
piece_token (Number n) text is token = tt
piece_token (Index letter n) text is token = tt

-- each text among the pieces that tokens begin with is a token
pub each_piece_token : (ps : List Piece) (ts rest : List Placed) → Begins ps ts rest → AllByRecursion (λ t. IsToken t.text) ts
    → AllByRecursion IsTokenPiece ps
each_piece_token [] ts rest h all = tt
each_piece_token (p ∷ ps) [] rest h all = absurd h
each_piece_token (p ∷ ps) (t ∷ ts) rest h all = (piece_token p t.text h.0 all.0, each_piece_token ps ts rest h.1 all.1)

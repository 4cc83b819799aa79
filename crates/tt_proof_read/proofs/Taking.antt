-- The value read from a stream is spelled by the tokens that it took.
use Rattle.std.proofs.Common.{◌≡◌, ℕ, ◌<◌, List, [], ◌∷◌, ◌++◌, length, Result, Ok, refl, sym, ap, subst, ◌∙◌, arith}
use Rattle.tt_text.specs.Tokens.{Placed}
use Rattle.tt_text.specs.Pieces.{Piece, IsPiece, Begins}
use Rattle.tt_text.specs.Feeds.{Stream}
use Rattle.tt_text.specs.declared.feed.FeedFault.{FeedFault}
use Rattle.tt_text.proofs.Steps.{ok_is, bind_ok}
use Rattle.tt_proof_read.specs.Reading.{first_of, token_at, one_at}
use Rattle.tt_proof_read.specs.declared.fault.TextFault.{TextFault}

-- The stream begins with these pieces, and `after` is the rest.
pub record Took (s : Stream) (ps : List Piece) (after : Stream) : Type 0 where
  pub begins : Begins ps s.tokens after.tokens
  pub stop : s.stop ≡ after.stop

-- pieces, and then more pieces
begins_then : (ps qs : List Piece) (ts mid rest : List Placed) → Begins ps ts mid → Begins qs mid rest → Begins (ps ++ qs) ts rest
begins_then [] qs ts mid rest a b = subst (λ (xs : List Placed). Begins qs xs rest) (sym a) b
begins_then (p ∷ ps) qs [] mid rest a b = absurd a
begins_then (p ∷ ps) qs (t ∷ ts) mid rest a b = (a.0, begins_then ps qs ts mid rest a.1 b)

-- some pieces of a stream, and then more pieces
pub took_then : (s mid after : Stream) (ps qs : List Piece) → Took s ps mid → Took mid qs after → Took s (ps ++ qs) after
took_then s mid after ps qs a b = record {
  begins = begins_then ps qs s.tokens mid.tokens after.tokens a.begins b.begins;
  stop = a.stop ∙ b.stop;
}

-- no piece
pub took_nothing : (s : Stream) → Took s [] s
took_nothing s = record { begins = refl; stop = refl }

-- a token that was read is the first one
first_is : (ts : List Placed) (stop : Result ℕ FeedFault) (x : Placed × Stream) → first_of ts stop ≡ Ok x → (ts ≡ x.0 ∷ x.1.tokens)
    × (stop ≡ x.1.stop)
first_is [] stop x e = absurd cc
first_is (t ∷ ts) stop x e =
    let made = ok_is (t, record { tokens = ts; stop = stop }) x e in
    (ap (λ (y : Placed × Stream). y.0 ∷ y.1.tokens) made, ap (λ (y : Placed × Stream). y.1.stop) made)

-- a token that was read as a piece
pub took_piece : (s : Stream) (x : Placed × Stream) (p : Piece) → token_at s ≡ Ok x → IsPiece p x.0.text → Took s (p ∷ []) x.1
unfolding token_at
took_piece s x p e piece =
    let h = first_is s.tokens s.stop x e in
    record { begins = subst (λ (ts : List Placed). Begins (p ∷ []) ts x.1.tokens) (sym h.0) (piece, refl); stop = h.1 }

-- after a token is read, the number of tokens left is smaller
pub token_less : (s : Stream) (x : Placed × Stream) → token_at s ≡ Ok x → length x.1.tokens < length s.tokens
unfolding token_at
token_less s x e = let h = ap length (first_is s.tokens s.stop x e).0 in omega arith

-- ---- pieces that are spelled

-- the next token is this piece, and the tokens after it begin with these pieces
pub record First (p : Piece) (ps : List Piece) (s after : Stream) : Type 0 where
  pub token : Placed
  pub mid : Stream
  pub is : token_at s ≡ Ok (token, mid)
  pub piece : IsPiece p token.text
  pub rest : Took mid ps after

-- the first of some pieces, for a stream given by its parts
first_in : (p : Piece) (ps : List Piece) (ts : List Placed) (stop : Result ℕ FeedFault) (after : Stream)
    → Took (record { tokens = ts; stop = stop }) (p ∷ ps) after → First p ps (record { tokens = ts; stop = stop }) after
unfolding token_at
first_in p ps [] stop after a = absurd a.begins
first_in p ps (t ∷ ts) stop after a = record {
  token = t;
  mid = record { tokens = ts; stop = stop };
  is = refl;
  piece = a.begins.0;
  rest = record { begins = a.begins.1; stop = a.stop };
}

-- the first of some pieces
pub first_of_pieces : (p : Piece) (ps : List Piece) (s after : Stream) → Took s (p ∷ ps) after → First p ps s after
first_of_pieces p ps s after a = first_in p ps s.tokens s.stop after a

-- tokens that begin with pieces and then more pieces
begins_split : (ps qs : List Piece) (ts rest : List Placed) → Begins (ps ++ qs) ts rest → (mid : List Placed) × Begins ps ts mid
    × Begins qs mid rest
begins_split [] qs ts rest a = (ts, refl, a)
begins_split (p ∷ ps) qs [] rest a = absurd a
begins_split (p ∷ ps) qs (t ∷ ts) rest a = let b = begins_split ps qs ts rest a.1 in (b.0, (a.0, b.1), b.2)

-- some pieces and then the others
pub took_split : (ps qs : List Piece) (s after : Stream) → Took s (ps ++ qs) after → (mid : Stream) × Took s ps mid × Took mid qs after
took_split ps qs s after a =
    let b = begins_split ps qs s.tokens after.tokens a.begins in
    (record { tokens = b.0; stop = s.stop }, record { begins = b.1; stop = refl }, record { begins = b.2; stop = a.stop })

-- tokens, and the fault or end after them
abbrev stream : List Placed → Result ℕ FeedFault → Stream
stream ts stop = record { tokens = ts; stop = stop }

-- if no piece is left, no token is taken
pub took_same : (s after : Stream) → Took s [] after → s ≡ after
took_same s after a = ap (λ ts. stream ts s.stop) a.begins ∙ ap (stream after.tokens) a.stop

-- -- values made of one token

-- a token that was read is a piece
pub one_took : {A : Type 0} (make : Placed → Result A TextFault) (piece : A → Piece) (P : A → Type 0) (s : Stream) (x : A × Stream)
    → ((t : Placed) (a : A) → make t ≡ Ok a → IsPiece (piece a) t.text × P a)
    → one_at make s ≡ Ok x → Took s (piece x.0 ∷ []) x.1 × P x.0
one_took make piece P s x law e =
    let t = bind_ok (token_at s) _ x e in
    let a = bind_ok (make t.0.0) (λ b. Ok (b, t.0.1)) x t.2 in
    let h = law t.0.0 a.0 a.1 in
    subst (λ y. Took s (piece y.0 ∷ []) y.1 × P y.0) (ok_is (a.0, t.0.1) x a.2) (took_piece s t.0 (piece a.0) t.1 h.0, h.1)

-- a piece that is spelled is read
pub one_reads : {A : Type 0} (make : Placed → Result A TextFault) (p : Piece) (a : A) (s after : Stream)
    → ((t : Placed) → IsPiece p t.text → make t ≡ Ok a) → Took s (p ∷ []) after
    → one_at make s ≡ Ok (a, after)
one_reads {A} make p a s after law took =
    let f = first_of_pieces p [] s after took in
    let read = law f.token f.piece in
    rw (f.is, read) (ap (λ (m : Stream). let r : Result (A × Stream) TextFault = Ok (a, m) in r) (took_same f.mid after f.rest))

-- Prices: those that are read are spelled, and those that are spelled are read.
use Rattle.std.proofs.Common.{◌≡◌, ℕ, ◌≤◌, ◌==◌, suc, Bool, true, false, cond, List, [], ◌∷◌, ◌++◌, length, Option, Some, None, Result, Ok, Err, refl, sym, ap, subst, ◌∙◌, append_assoc, arith, eqb-true, codes}
use Rattle.std.specs.Prelude.{map, flat_map, fold}
use Rattle.std.proofs.lemmas.List.{append-nil}
use Rattle.tt_text.specs.Tokens.{Placed}
use Rattle.tt_text.specs.Texts.{is_text}
use Rattle.tt_text.specs.Pieces.{Piece, Text, Number, Index, IsPiece}
use Rattle.tt_text.specs.Feeds.{Stream}
use Rattle.tt_text.specs.Reading.{◌>>=◌}
use Rattle.tt_text.proofs.Steps.{ok_is, bind_ok}
use Rattle.tt_text.proofs.Fields.{text_is, is_text_of}
use Rattle.tt_proof_read.specs.Inner.Pricing.{IsUnseen, ArePriceLists}
use Rattle.tt_proof_read.specs.Spelling.{Price, OfCourse, OfRoom, price_pieces, course_prices, room_prices, by_kind, course_piece, SpellsEach}
use Rattle.tt_proof_read.specs.Reading.{token_at, numbered_below, new_number, PriceLists, Seen, seen_in, priced_in, priced_of, with_price, price_at, pair_at, next_pair_at, with_priced, with_pair, prices_at}
use Rattle.tt_proof_read.specs.declared.fault.TextFault.{TextFault}
use Rattle.tt_proof_read.specs.declared.fault.TextFault.TheVariants as fault
use Rattle.tt_proof_read.specs.declared.format.TheConstants.{COURSE_LETTER, MAX_PRICE, ROOM_LETTER}
use Rattle.tt_proof_read.specs.declared.prices.Priced.{Priced}
use Rattle.tt_proof_read.specs.declared.prices.Priced.TheVariants.{Course, Room}
use Rattle.tt_proof_read.specs.declared.sizes.Sizes.{Sizes}
use Rattle.tt_proof_read.proofs.PriceTurns.{kept_push, kept_nothing, kept_before}
use Rattle.tt_proof_read.proofs.Progress.{pair_takes}
use Rattle.tt_proof_read.proofs.SeriesLaws.{EachNext, PartTook, series_took, series_reads}
use Rattle.tt_proof_read.proofs.Small.{AreSmall}
use Rattle.tt_proof_read.proofs.Taking.{Took, first_of_pieces, took_piece, took_then, took_same}
use Rattle.tt_proof_read.proofs.TokenLaws.{choice, new_number_ok, number_took, number_reads, not_single, price_took, price_reads}

-- the end of prices
abbrev last : Piece
last = Text (codes "/")

-- a course or a room is one piece
abbrev priced_piece : Priced → Piece
priced_piece (Course c) = course_piece c
priced_piece (Room r) = Index ROOM_LETTER r

-- a course or a room, or the end
abbrev first_piece : Option Priced → Piece
first_piece None = last
first_piece (Some x) = priced_piece x

-- a number and its price
abbrev price_of : Priced → ℕ → Price
price_of (Course c) u = OfCourse c u
price_of (Room r) u = OfRoom r u

-- a pair and its price
abbrev price_is : Priced × ℕ → Price
price_is x = price_of x.0 x.1

-- a number that hasn't been seen, or the end
abbrev IsUnseenIf : Sizes → Seen → Option Priced → Type 0
IsUnseenIf sizes seen None = Unit {0}
IsUnseenIf sizes seen (Some x) = IsUnseen sizes seen x

-- a pair is a number and a price
abbrev Spell : Priced × ℕ → List Piece → Type 0
Spell x ps = ps ≡ price_pieces (price_is x)

-- a price that may come next
abbrev IsNext : Sizes → PriceLists → Priced × ℕ → Type 0
IsNext sizes kept x = IsUnseen sizes (seen_in kept) x.0 × (x.1 ≤ MAX_PRICE)

-- ---- one token

-- a token that was read as a course or a room is its piece
priced_took_in : (at : ℕ) (sizes : Sizes) (seen : Seen) (text : List ℕ) (x : Priced) → priced_in at sizes seen text ≡ Ok x
    → IsPiece (priced_piece x) text × IsUnseen sizes seen x
priced_took_in at sizes seen [] x e = absurd cc
priced_took_in at sizes seen (b ∷ bs) x e = by_letter (b == COURSE_LETTER) (b == ROOM_LETTER) refl refl e
  where
    P : Priced → Type 0
    P y = IsPiece (priced_piece y) (b ∷ bs) × IsUnseen sizes seen y

    by_letter : (v w : Bool) → (b == COURSE_LETTER) ≡ v → (b == ROOM_LETTER) ≡ w
        → cond v (numbered_below at sizes.courses bs >>= new_number at seen.0 >>= λ n. Ok (Course n))
        (cond w (numbered_below at sizes.rooms bs >>= new_number at seen.1 >>= λ n. Ok (Room n)) (Err (fault.UnknownWord at))) ≡ Ok x
        → IsPiece (priced_piece x) (b ∷ bs) × IsUnseen sizes seen x
    by_letter true w v_is w_is h =
        let m = bind_ok (numbered_below at sizes.courses bs >>= new_number at seen.0) (λ n. Ok (Course n)) x h in
        let n = bind_ok (numbered_below at sizes.courses bs) (new_number at seen.0) m.0 m.1 in
        let s = number_took at sizes.courses bs n.0 n.1 in
        let u = new_number_ok at seen.0 n.0 m.0 n.2 in
        let made : Course n.0 ≡ x = ap Course u.1 ∙ ok_is (Course m.0) x m.2 in
        subst (λ y. IsPiece (priced_piece y) (b ∷ bs) × IsUnseen sizes seen y) made
        ((bs, ap (λ (k : ℕ). k ∷ bs) (eqb-true b 99 v_is), s.0), (s.1, u.0))
    by_letter false true v_is w_is h =
        let m = bind_ok (numbered_below at sizes.rooms bs >>= new_number at seen.1) (λ n. Ok (Room n)) x h in
        let n = bind_ok (numbered_below at sizes.rooms bs) (new_number at seen.1) m.0 m.1 in
        let s = number_took at sizes.rooms bs n.0 n.1 in
        let u = new_number_ok at seen.1 n.0 m.0 n.2 in
        let made : Room n.0 ≡ x = ap Room u.1 ∙ ok_is (Room m.0) x m.2 in
        subst (λ y. IsPiece (priced_piece y) (b ∷ bs) × IsUnseen sizes seen y) made
        ((bs, ap (λ (k : ℕ). k ∷ bs) (eqb-true b 114 w_is), s.0), (s.1, u.0))
    by_letter false false v_is w_is h = absurd cc

-- the piece of a course or a room is read as that course or room
priced_reads_in : (at : ℕ) (sizes : Sizes) (seen : Seen) (x : Priced) (text : List ℕ) → AreSmall sizes → IsUnseen sizes seen x
    → IsPiece (priced_piece x) text → priced_in at sizes seen text ≡ Ok x
priced_reads_in at sizes seen (Course n) text small next piece = let new = next.1 in
    rw (piece.1, number_reads at sizes.courses piece.0 n small.courses next.0 piece.2, new) refl
priced_reads_in at sizes seen (Room n) text small next piece = let new = next.1 in
    rw (piece.1, number_reads at sizes.rooms piece.0 n small.rooms next.0 piece.2, new) refl

-- a token that was read as a course or a room, or as the end, is its piece
priced_took_of : (sizes : Sizes) (seen : Seen) (t : Placed) (o : Option Priced) → priced_of sizes seen t ≡ Ok o
    → IsPiece (first_piece o) t.text × IsUnseenIf sizes seen o
priced_took_of sizes seen t o e =
    let P : Option Priced → Type 0 = λ v. IsPiece (first_piece v) t.text × IsUnseenIf sizes seen v in
    choice P (is_text (codes "/") t.text) None o (priced_in t.at sizes seen t.text >>= λ x. Ok (Some x))
    (λ h. (text_is t.text (codes "/") h, tt)) (λ _ r.
    let x = bind_ok (priced_in t.at sizes seen t.text) (λ y. Ok (Some y)) o r in
    subst P (ok_is (Some x.0) o x.2) (priced_took_in t.at sizes seen t.text x.0 x.1)) e

-- a course or a room isn't the end
not_last : (x : Priced) (text : List ℕ) → IsPiece (priced_piece x) text → is_text (codes "/") text ≡ false
not_last (Course c) text piece = not_single 47 COURSE_LETTER c text piece
not_last (Room r) text piece = not_single 47 ROOM_LETTER r text piece

-- the piece of a course or a room is read as that course or room, also if the end may come
priced_reads_of : (sizes : Sizes) (seen : Seen) (x : Priced) (t : Placed) → AreSmall sizes → IsUnseen sizes seen x
    → IsPiece (priced_piece x) t.text → priced_of sizes seen t ≡ Ok (Some x)
priced_reads_of sizes seen x t small next piece =
    rw (not_last x t.text piece, priced_reads_in t.at sizes seen x t.text small next piece) refl

-- ---- one pair

-- a pair that was read, or the end, is spelled
pair_took : (sizes : Sizes) (kept : PriceLists) (s : Stream) (x : Option (Priced × ℕ) × Stream) → next_pair_at sizes kept s ≡ Ok x
    → PartTook with_pair (next_pair_at sizes) Spell (IsNext sizes) last kept s x.0 x.1
unfolding pair_at
pair_took sizes kept s x e =
    let t = bind_ok (token_at s) _ x e in
    let o = bind_ok (priced_of sizes (seen_in kept) t.0.0) (λ v. with_price v t.0.1) x t.2 in
    let h = priced_took_of sizes (seen_in kept) t.0.0 o.0 o.1 in
    by_option t.0.1 o.0 (took_piece s t.0 (first_piece o.0) t.1 h.0) h.1 o.2
  where
    P : Option (Priced × ℕ) × Stream → Type 0
    P y = PartTook with_pair (next_pair_at sizes) Spell (IsNext sizes) last kept s y.0 y.1

    -- a pair is two pieces
    two : (y : Priced) (u : ℕ) → priced_piece y ∷ Number u ∷ [] ≡ price_pieces (price_of y u)
    two (Course c) u = refl
    two (Room r) u = refl

    by_option : (mid : Stream) (o : Option Priced) → Took s (first_piece o ∷ []) mid → IsUnseenIf sizes (seen_in kept) o
        → with_price o mid ≡ Ok x → PartTook with_pair (next_pair_at sizes) Spell (IsNext sizes) last kept s x.0 x.1
    by_option mid None took next r =
        subst (λ (y : Option (Priced × ℕ) × Stream). PartTook with_pair (next_pair_at sizes) Spell (IsNext sizes) last kept s y.0 y.1)
        (ok_is (None, mid) x r) took
    by_option mid (Some y) took next r =
        let u = bind_ok (price_at mid) (λ u. Ok (Some (y, u.0), u.1)) x r in
        let p = price_took mid u.0 u.1 in
        subst (λ (z : Option (Priced × ℕ) × Stream). PartTook with_pair (next_pair_at sizes) Spell (IsNext sizes) last kept s z.0 z.1)
        (ok_is (Some (y, u.0.0), u.0.1) x u.2) (
          priced_piece y ∷ Number u.0.0 ∷ [],
          two y u.0.0,
          took_then s mid u.0.1 (priced_piece y ∷ []) (Number u.0.0 ∷ []) took p.0,
          (next, p.1),
        )

-- a pair that is spelled is read
pair_reads : (sizes : Sizes) → AreSmall sizes → (kept : PriceLists) (x : Priced × ℕ) (ps : List Piece) (s after : Stream) → Spell x ps
    → IsNext sizes kept x → Took s ps after → next_pair_at sizes kept s ≡ Ok (Some x, after)
unfolding pair_at
pair_reads sizes small kept x ps s after spell next took = by_priced x.0 (subst (λ qs. Took s qs after) spell took) next.0
  where
    by_pieces : (y : Priced) → Took s (priced_piece y ∷ Number x.1 ∷ []) after → IsUnseen sizes (seen_in kept) y
        → (token_at s >>= λ t. priced_of sizes (seen_in kept) t.0 >>= λ o. with_price o t.1) ≡ Ok (Some (y, x.1), after)
    by_pieces y t new =
        let f = first_of_pieces (priced_piece y) (Number x.1 ∷ []) s after t in
        rw (f.is, priced_reads_of sizes (seen_in kept) y f.token small new f.piece, price_reads x.1 f.mid after next.1 f.rest) refl

    by_priced : (y : Priced) → Took s (price_pieces (price_of y x.1)) after → IsUnseen sizes (seen_in kept) y
        → (token_at s >>= λ t. priced_of sizes (seen_in kept) t.0 >>= λ o. with_price o t.1) ≡ Ok (Some (y, x.1), after)
    by_priced (Course c) t new = by_pieces (Course c) t new
    by_priced (Room r) t new = by_pieces (Room r) t new

-- the end that is spelled is read
last_reads : (sizes : Sizes) (kept : PriceLists) (s after : Stream) → Took s (last ∷ []) after
    → next_pair_at sizes kept s ≡ Ok (None, after)
unfolding pair_at
last_reads sizes kept s after took =
    let f = first_of_pieces last [] s after took in
    let is = is_text_of f.token.text (codes "/") f.piece in
    rw (f.is, is) (ap (λ (m : Stream). let r : Result (Option (Priced × ℕ) × Stream) TextFault = Ok (None, m) in r)
    (took_same f.mid after f.rest))

-- -- the properties of the prices

-- the pair of two lists
abbrev make : List (ℕ × ℕ) → List (ℕ × ℕ) → PriceLists
make courses rooms = (courses, rooms)

-- pairs of equal lists are equal
both : (a b c d : List (ℕ × ℕ)) → a ≡ c → b ≡ d → make a b ≡ make c d
both a b c d e f = ap (λ l. make l b) e ∙ ap (make c) f

-- another pair
more_pairs : (kept : PriceLists) (y : Priced) (u : ℕ) (ps : List Price)
    → make ((with_priced kept y u).0 ++ course_prices ps) ((with_priced kept y u).1 ++ room_prices ps) ≡ make
    (kept.0 ++ course_prices (price_of y u ∷ ps)) (kept.1 ++ room_prices (price_of y u ∷ ps))
more_pairs kept (Course c) u ps = both _ _ _ _ (append_assoc kept.0 ((c, u) ∷ []) (course_prices ps)) refl
more_pairs kept (Room r) u ps = both _ _ _ _ refl (append_assoc kept.1 ((r, u) ∷ []) (room_prices ps))

-- the lists that result from pairs
fold_pairs : (kept : PriceLists) (xs : List (Priced × ℕ)) → fold with_pair kept xs ≡ make (kept.0 ++ course_prices (map price_is xs))
    (kept.1 ++ room_prices (map price_is xs))
fold_pairs kept [] = both kept.0 kept.1 (kept.0 ++ []) (kept.1 ++ []) (sym (append-nil kept.0)) (sym (append-nil kept.1))
fold_pairs kept (x ∷ xs) = fold_pairs (with_pair kept x) xs ∙ more_pairs kept x.0 x.1 (map price_is xs)

-- if each pair may come next, all are right
each_kept : (sizes : Sizes) (kept : PriceLists) (xs : List (Priced × ℕ)) → ArePriceLists sizes kept
    → EachNext with_pair (next_pair_at sizes) Spell (IsNext sizes) last kept xs → ArePriceLists sizes (fold with_pair kept xs)
each_kept sizes kept [] are each = are
each_kept sizes kept (x ∷ xs) are each = each_kept sizes (with_pair kept x) xs (kept_push sizes kept x.0 x.1 are each.0.0 each.0.1) each.1

-- if all pairs are right, each may come next
next_each : (sizes : Sizes) (kept : PriceLists) (xs : List (Priced × ℕ)) → ArePriceLists sizes (fold with_pair kept xs)
    → EachNext with_pair (next_pair_at sizes) Spell (IsNext sizes) last kept xs
next_each sizes kept [] are = tt
next_each sizes kept (x ∷ xs) are = (
  kept_before sizes kept x.0 x.1 (course_prices (map price_is xs)) (room_prices (map price_is xs))
      (subst (ArePriceLists sizes) (fold_pairs (with_pair kept x) xs) are),
  next_each sizes (with_pair kept x) xs are,
)

-- the pieces of pairs are their only spelling
body_is : (xs : List (Priced × ℕ)) (body : List Piece) → SpellsEach Spell xs body → body ≡ flat_map price_pieces (map price_is xs)
body_is [] body h = h
body_is (x ∷ xs) body h = h.4 ∙ ap (λ ps. ps ++ h.1) h.2 ∙ ap (λ ps. price_pieces (price_is x) ++ ps) (body_is xs h.1 h.3)

-- the pieces of pairs spell them
body_spells : (xs : List (Priced × ℕ)) → SpellsEach Spell xs (flat_map price_pieces (map price_is xs))
body_spells [] = refl
body_spells (x ∷ xs) = (price_pieces (price_is x), flat_map price_pieces (map price_is xs), refl, body_spells xs, refl)

-- a price as a pair
abbrev pair_of : Price → Priced × ℕ
pair_of (OfCourse c u) = (Course c, u)
pair_of (OfRoom r u) = (Room r, u)

-- a price turned into a pair and back
price_pair : (x : Price) → price_is (pair_of x) ≡ x
price_pair (OfCourse c u) = refl
price_pair (OfRoom r u) = refl

-- a list of prices turned into pairs and back
prices_pairs : (xs : List Price) → map price_is (map pair_of xs) ≡ xs
prices_pairs [] = refl
prices_pairs (x ∷ xs) = ap (λ y. y ∷ map price_is (map pair_of xs)) (price_pair x) ∙ ap (λ ys. x ∷ ys) (prices_pairs xs)

-- ---- the prices

pub record PricesTook (sizes : Sizes) (s : Stream) (x : PriceLists × Stream) : Type 0 where
  pub prices : List Price
  pub kinds : by_kind prices ≡ x.0
  pub took : Took s (flat_map price_pieces prices ++ Text (codes "/") ∷ []) x.1
  pub kept : ArePriceLists sizes x.0

-- prices that were read are spelled
pub prices_took : (sizes : Sizes) (s : Stream) (x : PriceLists × Stream) → prices_at sizes s ≡ Ok x → PricesTook sizes s x
unfolding prices_at
prices_took sizes s x e =
    let h = series_took with_pair (next_pair_at sizes) Spell (IsNext sizes) last (pair_took sizes) (suc (length s.tokens)) ([], []) s x e in
    let shown = h.list ∙ fold_pairs ([], []) h.items in
    record {
      prices = map price_is h.items;
      kinds = sym shown;
      took = subst (λ ps. Took s (ps ++ last ∷ []) x.1) (body_is h.items h.body h.spells) h.took;
      kept = subst (ArePriceLists sizes) (sym h.list) (each_kept sizes ([], []) h.items (kept_nothing sizes ([], []) refl) h.each);
    }

-- prices that are spelled are read
pub prices_read : (sizes : Sizes) (prices : List Price) (s after : Stream) → AreSmall sizes
    → ArePriceLists sizes (course_prices prices, room_prices prices)
    → Took s (flat_map price_pieces prices ++ Text (codes "/") ∷ []) after
    → prices_at sizes s ≡ Ok ((course_prices prices, room_prices prices), after)
unfolding prices_at
prices_read sizes prices s after small are took =
    let pairs = map pair_of prices in
    let back = prices_pairs prices in
    let shown : fold with_pair ([], []) pairs ≡ make (course_prices prices) (room_prices prices) = fold_pairs ([], []) pairs
    ∙ ap (λ xs. make (course_prices xs) (room_prices xs)) back in
    let all = subst (λ (xs : List Price). Took s (flat_map price_pieces xs ++ last ∷ []) after) (sym back) took in
    series_reads with_pair (next_pair_at sizes) Spell (IsNext sizes) last (pair_takes sizes) (pair_reads sizes small) (last_reads sizes)
    (suc (length s.tokens)) ([], []) pairs (flat_map price_pieces (map price_is pairs)) s after
    (omega arith) (next_each sizes ([], []) pairs (subst (ArePriceLists sizes) (sym shown) are)) (body_spells pairs) all
    ∙ ap (λ (k : PriceLists). let r : Result (PriceLists × Stream) TextFault = Ok (k, after) in r) shown

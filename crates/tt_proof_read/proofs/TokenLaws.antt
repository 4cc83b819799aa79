-- Single tokens of a proof: those that are read are spelled, and those that are spelled are read.
use Rattle.std.proofs.Common.{◌≡◌, ℕ, ◌≤◌, ◌<◌, Bool, true, false, cond, List, [], ◌∷◌, Option, Some, None, Result, Ok, Err, refl, sym, ap, subst, ◌∙◌, arith, inl, inr, eqb-true, lit≤, codes}
use Rattle.std.specs.Prelude.{◌==◌, nat_lt, IfSome}
use Rattle.std.proofs.lemmas.Bool.{leb-true, le-leb, cases_eq, false_from_ne_true}
use Rattle.tt_list_laws.specs.Words.{has_number}
use Rattle.tt_text.specs.Tokens.{Placed}
use Rattle.tt_text.specs.Texts.{is_text}
use Rattle.tt_text.specs.Numbers.{is_number_text, number_of}
use Rattle.tt_text.specs.Pieces.{Text, Number, Index, SpellsNumber, IsPiece}
use Rattle.tt_text.specs.Feeds.{Stream}
use Rattle.tt_text.specs.Reading.{◌>>=◌}
use Rattle.tt_text.specs.declared.numbers.NumberFault.{NumberFault}
use Rattle.tt_text.specs.declared.numbers.NumberFault.TheVariants as number
use Rattle.tt_text.proofs.Steps.{ok_is, bind_ok, test_ok, refusal_ok}
use Rattle.tt_text.proofs.Fields.{text_is, is_text_of, number_spelled, number_read}
use Rattle.tt_path.specs.declared.facts.Who.{Who}
use Rattle.tt_path.specs.declared.facts.Who.TheVariants.{Course, Curriculum}
use Rattle.tt_leaf.specs.declared.leaf.Bound.{Bound}
use Rattle.tt_leaf.specs.declared.leaf.Bound.TheVariants.{AtLeast, Nothing}
use Rattle.tt_proof_read.specs.Words.{word_text, fixed}
use Rattle.tt_proof_read.specs.Spelling.{given_piece, course_piece, who_piece, bound_piece, version_text, IsBound}
use Rattle.tt_proof_read.specs.Reading.{token_at, word_at, numbered, below, numbered_below, index_in, index_of, new_number, course_at, curriculum_at, priced_as, price_at, who_in, who_at, given_of, given_at, version_of, version_at, bounded, bound_of, bound_at}
use Rattle.tt_proof_read.specs.declared.fault.Word.{Word}
use Rattle.tt_proof_read.specs.declared.fault.Word.TheVariants as word
use Rattle.tt_proof_read.specs.declared.fault.TextFault.{TextFault}
use Rattle.tt_proof_read.specs.declared.fault.TextFault.TheVariants as fault
use Rattle.tt_proof_read.specs.declared.format.TheConstants.{COURSE_LETTER, CURRICULUM_LETTER, MAX_POINTS, MAX_PRICE}
use Rattle.tt_proof_read.specs.declared.sizes.Sizes.{Sizes}
use Rattle.tt_proof_read.proofs.Small.{AreSmall, IsWhoIn}
use Rattle.tt_proof_read.proofs.Taking.{Took, first_of_pieces, took_piece, took_same, one_took, one_reads}

-- the result of a choice, from its two branches
pub choice : {A : Type 0} (P : A → Type 0) (b : Bool) (a x : A) (r : Result A TextFault) → (b ≡ true → P a)
    → (b ≡ false → r ≡ Ok x → P x) → cond b (Ok a) r ≡ Ok x → P x
choice P true a x r one other e = subst P (ok_is a x e) (one refl)
choice P false a x r one other e = other refl e

-- ---- a fixed word

-- a word that was read is spelled
pub word_took : (w : Word) (s after : Stream) → word_at w s ≡ Ok after → Took s (fixed w ∷ []) after
unfolding word_at
word_took w s after e =
    let a = bind_ok (token_at s) (λ t. cond (is_text (word_text w) t.0.text) (Ok t.1) (Err (fault.Expected w t.0.at))) after e in
    let g = test_ok (is_text (word_text w) a.0.0.text) (fault.Expected w a.0.0.at) (Ok a.0.1) after a.2 in
    subst (Took s (fixed w ∷ [])) (ok_is a.0.1 after g.1) (took_piece s a.0 (fixed w) a.1 (text_is a.0.0.text (word_text w) g.0))

-- a word that is spelled is read
pub word_reads : (w : Word) (s after : Stream) → Took s (fixed w ∷ []) after → word_at w s ≡ Ok after
unfolding word_at
word_reads w s after took =
    let f = first_of_pieces (fixed w) [] s after took in
    let is : is_text (word_text w) f.token.text ≡ true = is_text_of f.token.text (word_text w) f.piece in
    rw (f.is, is) (ap (λ m. let r : Result Stream TextFault = Ok m in r) (took_same f.mid after f.rest))

-- ---- numbers after a letter

-- a token that was read as a number after a letter is a number
numbered_ok : (at : ℕ) (r : Result ℕ NumberFault) (n : ℕ) → numbered at r ≡ Ok n → r ≡ Ok n
numbered_ok at (Ok m) n e = cc
numbered_ok at (Err number.NotANumber) n e = absurd cc
numbered_ok at (Err number.TooLarge) n e = absurd cc

-- a number below a count that was read is spelled
pub number_took : (at count : ℕ) (digits : List ℕ) (n : ℕ) → numbered_below at count digits ≡ Ok n → SpellsNumber digits n × (n < count)
unfolding numbered_below
number_took at count digits n e =
    let m = bind_ok (numbered at (number_of 4294967295 digits)) (below at count) n e in
    let s = number_spelled 4294967295 digits m.0 (numbered_ok at _ m.0 m.1) in
    let h = test_ok (nat_lt m.0 count) (fault.UnknownIndex at) (Ok m.0) n m.2 in
    subst (λ (k : ℕ). SpellsNumber digits k × (k < count)) (ok_is m.0 n h.1) (s.0, omega (arith, leb-true _ _ h.0))

-- a number below a count that is spelled is read
pub number_reads : (at count : ℕ) (digits : List ℕ) (n : ℕ) → count ≤ 4294967295 → n < count → SpellsNumber digits n
    → numbered_below at count digits ≡ Ok n
unfolding numbered_below
number_reads at count digits n at_most less s =
    let small : nat_lt n count ≡ true = le-leb _ _ (omega arith) in
    rw (number_read 4294967295 digits n s (omega arith), small) refl

-- bytes that were read as a letter and a number are its piece
in_took : (at letter count : ℕ) (text : List ℕ) (n : ℕ) → index_in at letter count text ≡ Ok n → IsPiece (Index letter n) text × (n < count)
in_took at letter count [] n e = absurd cc
in_took at letter count (b ∷ bs) n e =
    let h = test_ok (b == letter) (fault.UnknownWord at) (numbered_below at count bs) n e in
    let s = number_took at count bs n h.1 in
    ((bs, ap (λ (k : ℕ). k ∷ bs) (eqb-true b letter h.0), s.0), s.1)

-- a letter equals itself
same_letter : (b : ℕ) → (b == b) ≡ true
same_letter b = grind arith

-- the piece of a letter and a number is read as that number
in_reads : (at letter count : ℕ) (text : List ℕ) (n : ℕ) → count ≤ 4294967295 → n < count → IsPiece (Index letter n) text
    → index_in at letter count text ≡ Ok n
in_reads at letter count text n at_most less piece = rw (piece.1, same_letter letter) (number_reads at count piece.0 n at_most less piece.2)

-- a token that was read as a letter and a number is its piece
pub index_took : (letter count : ℕ) (t : Placed) (n : ℕ) → index_of letter count t ≡ Ok n → IsPiece (Index letter n) t.text × (n < count)
unfolding index_of
index_took letter count t n e = in_took t.at letter count t.text n e

-- a token that is the piece of a letter and a number is read as that number
pub index_reads : (letter count n : ℕ) (t : Placed) → count ≤ 4294967295 → n < count → IsPiece (Index letter n) t.text
    → index_of letter count t ≡ Ok n
unfolding index_of
index_reads letter count n t at_most less piece = in_reads t.at letter count t.text n at_most less piece

-- a course that was read is spelled
pub course_took : (sizes : Sizes) (s : Stream) (x : ℕ × Stream) → course_at sizes s ≡ Ok x → Took s (course_piece x.0 ∷ []) x.1
    × (x.0 < sizes.courses)
unfolding course_at
course_took sizes s x e = one_took (index_of COURSE_LETTER sizes.courses) course_piece (λ c. c < sizes.courses) s x
    (index_took COURSE_LETTER sizes.courses) e

-- a course that is spelled is read
pub course_reads : (sizes : Sizes) (c : ℕ) (s after : Stream) → sizes.courses ≤ 4294967295 → c < sizes.courses
    → Took s (course_piece c ∷ []) after → course_at sizes s ≡ Ok (c, after)
unfolding course_at
course_reads sizes c s after at_most less took = one_reads (index_of COURSE_LETTER sizes.courses) (course_piece c) c s after
    (λ t piece. index_reads COURSE_LETTER sizes.courses c t at_most less piece) took

-- a curriculum that was read is spelled
pub curriculum_took : (sizes : Sizes) (s : Stream) (x : ℕ × Stream) → curriculum_at sizes s ≡ Ok x
    → Took s (Index CURRICULUM_LETTER x.0 ∷ []) x.1 × (x.0 < sizes.curricula)
unfolding curriculum_at
curriculum_took sizes s x e = one_took (index_of CURRICULUM_LETTER sizes.curricula) (Index CURRICULUM_LETTER)
    (λ q. q < sizes.curricula) s x (index_took CURRICULUM_LETTER sizes.curricula) e

-- a curriculum that is spelled is read
pub curriculum_reads : (sizes : Sizes) (q : ℕ) (s after : Stream) → sizes.curricula ≤ 4294967295 → q < sizes.curricula
    → Took s (Index CURRICULUM_LETTER q ∷ []) after → curriculum_at sizes s ≡ Ok (q, after)
unfolding curriculum_at
curriculum_reads sizes q s after at_most less took = one_reads (index_of CURRICULUM_LETTER sizes.curricula)
    (Index CURRICULUM_LETTER q) q s after (λ t piece. index_reads CURRICULUM_LETTER sizes.curricula q t at_most less piece) took

-- a number that was taken differs from those before it
pub new_number_ok : (at : ℕ) (before : List ℕ) (n m : ℕ) → new_number at before n ≡ Ok m → (has_number before n ≡ false) × (n ≡ m)
new_number_ok at before n m e = let h = refusal_ok (has_number before n) (fault.RepeatedIndex at) (Ok n) m e in (h.0, ok_is n m h.1)

-- ---- prices

-- a token that was read as a price is a number
pub priced_ok : (at : ℕ) (r : Result ℕ NumberFault) (u : ℕ) → priced_as at r ≡ Ok u → r ≡ Ok u
priced_ok at (Ok m) u e = cc
priced_ok at (Err f) u e = absurd cc

-- a price that was read is spelled
pub price_took : (s : Stream) (x : ℕ × Stream) → price_at s ≡ Ok x → Took s (Number x.0 ∷ []) x.1 × (x.0 ≤ MAX_PRICE)
unfolding price_at
price_took s x e = one_took (λ t. priced_as t.at (number_of MAX_PRICE t.text)) Number (λ u. u ≤ MAX_PRICE) s x
    (λ t u h. number_spelled MAX_PRICE t.text u (priced_ok t.at _ u h)) e

-- a price that is spelled is read
pub price_reads : (u : ℕ) (s after : Stream) → u ≤ MAX_PRICE → Took s (Number u ∷ []) after → price_at s ≡ Ok (u, after)
unfolding price_at
price_reads u s after within took = one_reads (λ t. priced_as t.at (number_of MAX_PRICE t.text)) (Number u) u s after
    (λ t piece. ap (priced_as t.at) (number_read MAX_PRICE t.text u piece within)) took

-- ---- patterns

-- bytes that were read as a course or a curriculum are its piece
who_took_in : (at : ℕ) (sizes : Sizes) (text : List ℕ) (w : Who) → who_in at sizes text ≡ Ok w → IsPiece (who_piece w) text
    × IsWhoIn sizes w
who_took_in at sizes [] w e = absurd cc
who_took_in at sizes (b ∷ bs) w e = by_letter (b == COURSE_LETTER) (b == CURRICULUM_LETTER) refl refl e
  where
    by_letter : (x y : Bool) → (b == COURSE_LETTER) ≡ x → (b == CURRICULUM_LETTER) ≡ y
        → cond x (numbered_below at sizes.courses bs >>= λ n. Ok (Course n))
        (cond y (numbered_below at sizes.curricula bs >>= λ n. Ok (Curriculum n)) (Err (fault.UnknownWord at))) ≡ Ok w
        → IsPiece (who_piece w) (b ∷ bs) × IsWhoIn sizes w
    by_letter true y x_is y_is h =
        let n = bind_ok (numbered_below at sizes.courses bs) (λ n. Ok (Course n)) w h in
        let s = number_took at sizes.courses bs n.0 n.1 in
        subst (λ v. IsPiece (who_piece v) (b ∷ bs) × IsWhoIn sizes v) (ok_is (Course n.0) w n.2)
        ((bs, ap (λ (k : ℕ). k ∷ bs) (eqb-true b 99 x_is), s.0), s.1)
    by_letter false true x_is y_is h =
        let n = bind_ok (numbered_below at sizes.curricula bs) (λ n. Ok (Curriculum n)) w h in
        let s = number_took at sizes.curricula bs n.0 n.1 in
        subst (λ v. IsPiece (who_piece v) (b ∷ bs) × IsWhoIn sizes v) (ok_is (Curriculum n.0) w n.2)
        ((bs, ap (λ (k : ℕ). k ∷ bs) (eqb-true b 113 y_is), s.0), s.1)
    by_letter false false x_is y_is h = absurd cc

-- the piece of a course or a curriculum is read as that course or curriculum
who_reads_in : (at : ℕ) (sizes : Sizes) (w : Who) (text : List ℕ) → AreSmall sizes → IsWhoIn sizes w → IsPiece (who_piece w) text
    → who_in at sizes text ≡ Ok w
who_reads_in at sizes (Course n) text small less piece =
    rw (piece.1, number_reads at sizes.courses piece.0 n small.courses less piece.2) refl
who_reads_in at sizes (Curriculum n) text small less piece =
    rw (piece.1, number_reads at sizes.curricula piece.0 n small.curricula less piece.2) refl

-- a course or a curriculum that was read is spelled
pub who_took : (sizes : Sizes) (s : Stream) (x : Who × Stream) → who_at sizes s ≡ Ok x → Took s (who_piece x.0 ∷ []) x.1 × IsWhoIn sizes x.0
unfolding who_at
who_took sizes s x e = one_took (λ t. who_in t.at sizes t.text) who_piece (IsWhoIn sizes) s x (λ t w h. who_took_in t.at sizes t.text w h) e

-- a course or a curriculum that is spelled is read
pub who_reads : (sizes : Sizes) (w : Who) (s after : Stream) → AreSmall sizes → IsWhoIn sizes w → Took s (who_piece w ∷ []) after
    → who_at sizes s ≡ Ok (w, after)
unfolding who_at
who_reads sizes w s after small less took = one_reads (λ t. who_in t.at sizes t.text) (who_piece w) w s after
    (λ t piece. who_reads_in t.at sizes w t.text small less piece) took

-- a token that was read as a given number or `*` is its piece
given_took_of : (letter count : ℕ) (t : Placed) (o : Option ℕ) → given_of letter count t ≡ Ok o → IsPiece (given_piece letter o) t.text
    × IfSome o (λ n. n < count)
unfolding given_of
given_took_of letter count t o e =
    choice (λ v. IsPiece (given_piece letter v) t.text × IfSome v (λ k. k < count)) (is_text (codes "*") t.text) None o
    (index_of letter count t >>= λ n. Ok (Some n)) (λ star. (text_is t.text (codes "*") star, tt)) (λ other h.
    let n = bind_ok (index_of letter count t) (λ n. Ok (Some n)) o h in
    subst (λ v. IsPiece (given_piece letter v) t.text × IfSome v (λ k. k < count)) (ok_is (Some n.0) o n.2)
    (index_took letter count t n.0 n.1)) e

-- a letter with a number after it is not a single byte
pub not_single : (byte letter n : ℕ) (text : List ℕ) → IsPiece (Index letter n) text → is_text (byte ∷ []) text ≡ false
not_single byte letter n text piece = false_from_ne_true (is_text (byte ∷ []) text) (λ e.
    let one : letter ∷ piece.0 ≡ byte ∷ [] = sym piece.1 ∙ text_is text (byte ∷ []) e in
    let none : piece.0 ≡ [] = cc in
    let digits : is_number_text [] ≡ true = subst (λ (ds : List ℕ). is_number_text ds ≡ true) none piece.2.digits_only in
    cc)

-- the piece of a given number or `*` is read as that number or `*`
given_reads_of : (letter count : ℕ) (o : Option ℕ) (t : Placed) → count ≤ 4294967295 → IfSome o (λ n. n < count)
    → IsPiece (given_piece letter o) t.text → given_of letter count t ≡ Ok o
unfolding given_of
given_reads_of letter count None t at_most less piece = rw (is_text_of t.text (codes "*") piece) refl
given_reads_of letter count (Some n) t at_most less piece =
    rw (not_single 42 letter n t.text piece, index_reads letter count n t at_most less piece) refl

-- a given number or `*` that was read is spelled
pub given_took : (letter count : ℕ) (s : Stream) (x : Option ℕ × Stream) → given_at letter count s ≡ Ok x
    → Took s (given_piece letter x.0 ∷ []) x.1 × IfSome x.0 (λ n. n < count)
unfolding given_at
given_took letter count s x e = one_took (given_of letter count) (given_piece letter) (λ o. IfSome o (λ n. n < count)) s x
    (given_took_of letter count) e

-- a given number or `*` that is spelled is read
pub given_reads : (letter count : ℕ) (o : Option ℕ) (s after : Stream) → count ≤ 4294967295 → IfSome o (λ n. n < count)
    → Took s (given_piece letter o ∷ []) after → given_at letter count s ≡ Ok (o, after)
unfolding given_at
given_reads letter count o s after at_most less took = one_reads (given_of letter count) (given_piece letter o) o s after
    (λ t piece. given_reads_of letter count o t at_most less piece) took

-- ---- the version

-- a token that was read as a version has its text
version_is : (t : Placed) (v : ℕ) → version_of t ≡ Ok v → (t.text ≡ version_text v) × ((1 ≤ v) × (v ≤ 2))
version_is t v e =
    let P : ℕ → Type 0 = λ n. (t.text ≡ version_text n) × ((1 ≤ n) × (n ≤ 2)) in
    choice P (is_text (codes "1") t.text) 1 v (cond (is_text (codes "2") t.text) (Ok 2) (Err (fault.Expected word.One t.at)))
    (λ h. (text_is t.text (codes "1") h, (lit≤ tt, lit≤ tt))) (λ _ r.
    choice P (is_text (codes "2") t.text) 2 v (Err (fault.Expected word.One t.at))
    (λ h. (text_is t.text (codes "2") h, (lit≤ tt, lit≤ tt))) (λ _ x. absurd cc) r) e

-- the text of a version is read as that version
is_version : (v : ℕ) (t : Placed) → 1 ≤ v → v ≤ 2 → t.text ≡ version_text v → version_of t ≡ Ok v
is_version v t low high h = elim (cases_eq v 1) [
  | inl e ↦ rw (h, e) refl
  | inr e ↦ let two : v ≡ 2 = omega arith in rw (h, two) refl
]

-- a version that was read is spelled
pub version_took : (s : Stream) (x : ℕ × Stream) → version_at s ≡ Ok x → Took s (Text (version_text x.0) ∷ []) x.1 × ((1 ≤ x.0) × (x.0 ≤ 2))
unfolding version_at
version_took s x e = one_took version_of (λ v. Text (version_text v)) (λ v. (1 ≤ v) × (v ≤ 2)) s x version_is e

-- a version that is spelled is read
pub version_reads : (v : ℕ) (s after : Stream) → 1 ≤ v → v ≤ 2 → Took s (Text (version_text v) ∷ []) after → version_at s ≡ Ok (v, after)
unfolding version_at
version_reads v s after low high took = one_reads version_of (Text (version_text v)) v s after
    (λ t piece. is_version v t low high piece) took

-- ---- the bound

-- a bound that was read as a number is that number
bounded_ok : (at : ℕ) (r : Result ℕ NumberFault) (b : Bound) → bounded at r ≡ Ok b → (n : ℕ) × (r ≡ Ok n) × (AtLeast n ≡ b)
bounded_ok at (Ok n) b e = (n, refl, ok_is (AtLeast n) b e)
bounded_ok at (Err f) b e = absurd cc

-- a token that was read as a bound is its piece
bound_is : (t : Placed) (b : Bound) → bound_of t ≡ Ok b → IsPiece (bound_piece b) t.text × IsBound b
unfolding bound_of
bound_is t b e =
    choice (λ c. IsPiece (bound_piece c) t.text × IsBound c) (is_text (codes "none") t.text) Nothing b
    (bounded t.at (number_of MAX_POINTS t.text)) (λ h. (text_is t.text (codes "none") h, tt)) (λ _ r.
    let n = bounded_ok t.at _ b r in
    subst (λ (c : Bound). IsPiece (bound_piece c) t.text × IsBound c) n.2 (number_spelled MAX_POINTS t.text n.0 n.1)) e

-- digits are different from `none`
not_none : (text : List ℕ) → is_number_text text ≡ true → is_text (codes "none") text ≡ false
not_none text digits = false_from_ne_true (is_text (codes "none") text) (λ e.
    let none : is_number_text (codes "none") ≡ true = subst (λ (t : List ℕ). is_number_text t ≡ true)
    (text_is text (codes "none") e) digits in
    cc)

-- the piece of a bound is read as that bound
is_bound : (b : Bound) (t : Placed) → IsBound b → IsPiece (bound_piece b) t.text → bound_of t ≡ Ok b
unfolding bound_of
is_bound (AtLeast n) t within piece = rw (not_none t.text piece.digits_only, number_read MAX_POINTS t.text n piece within) refl
is_bound Nothing t within piece = rw (is_text_of t.text (codes "none") piece) refl

-- a bound that was read is spelled
pub bound_took : (s : Stream) (x : Bound × Stream) → bound_at s ≡ Ok x → Took s (bound_piece x.0 ∷ []) x.1 × IsBound x.0
unfolding bound_at
bound_took s x e = one_took bound_of bound_piece IsBound s x bound_is e

-- a bound that is spelled is read
pub bound_reads : (b : Bound) (s after : Stream) → IsBound b → Took s (bound_piece b ∷ []) after → bound_at s ≡ Ok (b, after)
unfolding bound_at
bound_reads b s after within took = one_reads bound_of (bound_piece b) b s after (λ t piece. is_bound b t within piece) took

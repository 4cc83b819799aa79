-- Lists of distinct courses: those that are read are spelled, and those that are spelled are read.
use Rattle.std.proofs.Common.{◌≡◌, ℕ, ◌<◌, ◌==◌, suc, true, false, not, List, [], ◌∷◌, ◌++◌, length, Option, Some, None, Result, Ok, refl, sym, ap, subst, ◌∙◌, append_assoc, arith, codes}
use Rattle.std.specs.Prelude.{map, fold}
use Rattle.std.specs.List.{push}
use Rattle.std.proofs.lemmas.List.{append-nil}
use Rattle.std.proofs.lemmas.List.Elements.{All-nil, All-cons, All-head, All-tail}
use Rattle.tt_list_laws.specs.Words.{each_two, has_number}
use Rattle.tt_text.specs.Tokens.{Placed}
use Rattle.tt_text.specs.Texts.{is_text}
use Rattle.tt_text.specs.Pieces.{Piece, Text, IsPiece}
use Rattle.tt_text.specs.Feeds.{Stream}
use Rattle.tt_text.specs.Reading.{◌>>=◌}
use Rattle.tt_text.proofs.Steps.{ok_is, bind_ok}
use Rattle.tt_text.proofs.Fields.{text_is, is_text_of}
use Rattle.tt_leaf.specs.Ranges.{AreBelow}
use Rattle.tt_proof_read.specs.Spelling.{course_piece, listed_pieces, SpellsEach}
use Rattle.tt_proof_read.specs.Reading.{index_of, new_number, listed_of, listed_at, list_at}
use Rattle.tt_proof_read.specs.declared.fault.TextFault.{TextFault}
use Rattle.tt_proof_read.specs.declared.format.TheConstants.{COURSE_LETTER}
use Rattle.tt_proof_read.specs.declared.sizes.Sizes.{Sizes}
use Rattle.tt_proof_read.proofs.Progress.{listed_takes}
use Rattle.tt_proof_read.proofs.SeriesLaws.{EachNext, PartTook, series_took, series_reads}
use Rattle.tt_proof_read.proofs.Small.{AreSmall}
use Rattle.tt_proof_read.proofs.Taking.{Took, one_took, one_reads}
use Rattle.tt_proof_read.proofs.TokenLaws.{choice, new_number_ok, index_took, index_reads, not_single}
use Rattle.tt_proof_read.proofs.Distinct.{each_two_push, is_new}

-- the end of a list of courses
abbrev last : Piece
last = Text (codes ";")

-- a course, or the end
abbrev listed_piece : Option ℕ → Piece
listed_piece None = last
listed_piece (Some c) = course_piece c

-- no two courses are the same
abbrev AreOnce : List ℕ → Type 0
AreOnce cs = each_two (λ a b. not (a == b)) cs ≡ true

-- a course of the instance that differs from those before it
abbrev IsNext : Sizes → List ℕ → ℕ → Type 0
IsNext sizes before c = (c < sizes.courses) × (has_number before c ≡ false)

-- a course that may come next, or the end
abbrev IsNextIf : Sizes → List ℕ → Option ℕ → Type 0
IsNextIf sizes before None = Unit {0}
IsNextIf sizes before (Some c) = IsNext sizes before c

-- a course is one piece
abbrev Spell : ℕ → List Piece → Type 0
Spell c ps = ps ≡ course_piece c ∷ []

-- a token that was read as a course, or as the end, is its piece
listed_took_of : (sizes : Sizes) (before : List ℕ) (t : Placed) (o : Option ℕ) → listed_of sizes before t ≡ Ok o
    → IsPiece (listed_piece o) t.text × IsNextIf sizes before o
listed_took_of sizes before t o e =
    let P : Option ℕ → Type 0 = λ v. IsPiece (listed_piece v) t.text × IsNextIf sizes before v in
    choice P (is_text (codes ";") t.text) None o (index_of COURSE_LETTER sizes.courses t >>= new_number t.at before >>= λ c. Ok
    (Some c)) (λ h. (text_is t.text (codes ";") h, tt)) (λ _ r.
    let c = bind_ok (index_of COURSE_LETTER sizes.courses t >>= new_number t.at before) (λ c. Ok (Some c)) o r in
    let i = bind_ok (index_of COURSE_LETTER sizes.courses t) (new_number t.at before) c.0 c.1 in
    let n = new_number_ok t.at before i.0 c.0 i.2 in
    let s = index_took COURSE_LETTER sizes.courses t i.0 i.1 in
    subst P (ap (λ (k : ℕ). Some k) n.1 ∙ ok_is (Some c.0) o c.2) (s.0, (s.1, n.0))) e

-- a course that was read, or the end, is spelled
listed_took : (sizes : Sizes) (before : List ℕ) (s : Stream) (x : Option ℕ × Stream) → listed_at sizes before s ≡ Ok x
    → PartTook push (listed_at sizes) Spell (IsNext sizes) last before s x.0 x.1
unfolding listed_at
listed_took sizes before s x e =
    by_option x.0 (one_took (listed_of sizes before) listed_piece (IsNextIf sizes before) s x (listed_took_of sizes before) e)
  where
    by_option : (o : Option ℕ) → Took s (listed_piece o ∷ []) x.1 × IsNextIf sizes before o → PartTook push (listed_at sizes) Spell
        (IsNext sizes) last before s o x.1
    by_option None h = h.0
    by_option (Some c) h = (course_piece c ∷ [], refl, h.0, h.1)

-- a course that is spelled is read
course_reads_next : (sizes : Sizes) → AreSmall sizes → (before : List ℕ) (c : ℕ) (ps : List Piece) (s after : Stream) → Spell c ps
    → IsNext sizes before c → Took s ps after → listed_at sizes before s ≡ Ok (Some c, after)
unfolding listed_at
course_reads_next sizes small before c ps s after spell next took =
    one_reads (listed_of sizes before) (course_piece c) (Some c) s after
    (λ t piece. let new = next.1 in
    rw (
      not_single 59 COURSE_LETTER c t.text piece,
      index_reads COURSE_LETTER sizes.courses c t small.courses next.0 piece,
      new,
    ) refl)
    (subst (λ qs. Took s qs after) spell took)

-- the end that is spelled is read
last_reads : (sizes : Sizes) (before : List ℕ) (s after : Stream) → Took s (last ∷ []) after → listed_at sizes before s ≡ Ok (None, after)
unfolding listed_at
last_reads sizes before s after took = one_reads (listed_of sizes before) last None s after
    (λ t piece. rw (is_text_of t.text (codes ";") piece) refl) took

-- -- the properties of the courses

-- elements pushed in turn are appended
pub fold_push : {X : Type 0} (before xs : List X) → fold push before xs ≡ before ++ xs
fold_push before [] = sym (append-nil before)
fold_push before (x ∷ xs) = fold_push (before ++ x ∷ []) xs ∙ append_assoc before (x ∷ []) xs

-- courses that may each come next are courses
each_below : (sizes : Sizes) (before cs : List ℕ) → EachNext push (listed_at sizes) Spell (IsNext sizes) last before cs
    → AreBelow sizes.courses cs
each_below sizes before [] each = All-nil (λ n. n < sizes.courses)
each_below sizes before (c ∷ cs) each = All-cons (λ n. n < sizes.courses) c cs each.0.0 (each_below sizes (before ++ c ∷ []) cs each.1)

-- courses that may each come next are distinct
each_once : (sizes : Sizes) (before cs : List ℕ) → AreOnce before → EachNext push (listed_at sizes) Spell (IsNext sizes) last before cs
    → AreOnce (before ++ cs)
each_once sizes before [] once each = subst AreOnce (sym (append-nil before)) once
each_once sizes before (c ∷ cs) once each =
    subst AreOnce (append_assoc before (c ∷ []) cs)
    (each_once sizes (before ++ c ∷ []) cs (each_two_push (λ a b. a == b) before c once each.0.1) each.1)

-- distinct courses may each come next
next_each : (sizes : Sizes) (before cs : List ℕ) → AreBelow sizes.courses cs → AreOnce (before ++ cs)
    → EachNext push (listed_at sizes) Spell (IsNext sizes) last before cs
next_each sizes before [] below once = tt
next_each sizes before (c ∷ cs) below once = (
  (All-head (λ n. n < sizes.courses) c cs below, is_new (λ a b. a == b) before c cs once),
  next_each sizes (before ++ c ∷ []) cs (All-tail (λ n. n < sizes.courses) c cs below)
      (subst AreOnce (sym (append_assoc before (c ∷ []) cs)) once),
)

-- the pieces of courses are their only spelling
body_is : (cs : List ℕ) (body : List Piece) → SpellsEach Spell cs body → body ≡ map course_piece cs
body_is [] body h = h
body_is (c ∷ cs) body h = h.4 ∙ ap (λ ps. ps ++ h.1) h.2 ∙ ap (λ ps. course_piece c ∷ ps) (body_is cs h.1 h.3)

-- the pieces of courses spell them
body_spells : (cs : List ℕ) → SpellsEach Spell cs (map course_piece cs)
body_spells [] = refl
body_spells (c ∷ cs) = (course_piece c ∷ [], map course_piece cs, refl, body_spells cs, refl)

-- ---- the list

pub record ListTook (sizes : Sizes) (s : Stream) (x : List ℕ × Stream) : Type 0 where
  pub took : Took s (listed_pieces x.0) x.1
  pub below : AreBelow sizes.courses x.0
  pub once : each_two (λ a b. not (a == b)) x.0 ≡ true

-- a list that was read is spelled
pub list_took : (sizes : Sizes) (s : Stream) (x : List ℕ × Stream) → list_at sizes s ≡ Ok x → ListTook sizes s x
unfolding list_at
list_took sizes s x e =
    let h = series_took push (listed_at sizes) Spell (IsNext sizes) last (listed_took sizes) (suc (length s.tokens)) [] s x e in
    let items : h.items ≡ x.0 = sym (h.list ∙ fold_push [] h.items) in
    record {
      took = subst (λ cs. Took s (listed_pieces cs) x.1) items
          (subst (λ ps. Took s (ps ++ last ∷ []) x.1) (body_is h.items h.body h.spells) h.took);
      below = subst (AreBelow sizes.courses) items (each_below sizes [] h.items h.each);
      once = subst AreOnce items (each_once sizes [] h.items refl h.each);
    }

-- a list that is spelled is read
pub list_reads : (sizes : Sizes) (cs : List ℕ) (s after : Stream) → AreSmall sizes → AreBelow sizes.courses cs
    → each_two (λ a b. not (a == b)) cs ≡ true → Took s (listed_pieces cs) after
    → list_at sizes s ≡ Ok (cs, after)
unfolding list_at
list_reads sizes cs s after small below once took =
    series_reads push (listed_at sizes) Spell (IsNext sizes) last (listed_takes sizes) (course_reads_next sizes small)
    (last_reads sizes) (suc (length s.tokens)) [] cs (map course_piece cs) s after
    (omega arith) (next_each sizes [] cs below once) (body_spells cs) took
    ∙ ap (λ l. let r : Result (List ℕ × Stream) TextFault = Ok (l, after) in r) (fold_push [] cs)

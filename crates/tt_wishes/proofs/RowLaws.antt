-- Whole files of wishes: those that are read are spelled, and those that are spelled are read.
use Rattle.std.proofs.Common.{◌≡◌, ℕ, ◌+◌, ◌<◌, ◌≤◌, false, List, [], ◌∷◌, ◌++◌, length, Result, Ok, Err, refl, sym, ap, subst, ◌∙◌, append_assoc, arith, length-append}
use Rattle.std.specs.Prelude.{filter, nat_le, IfOk}
use Rattle.std.specs.List.{AllZip}
use Rattle.std.proofs.lemmas.Bool.{leb-false, leb-true, false_from_ne_true}
use Rattle.std.proofs.lemmas.List.{append-nil}
use Rattle.std.proofs.lemmas.List.Elements.{All-nil, All-cons}
use Rattle.tt_text.specs.Tokens.{Placed}
use Rattle.tt_text.specs.Reading.{◌>>=◌}
use Rattle.tt_text.proofs.Steps.{done, ok_is, bind_ok, refusal_ok}
use Rattle.tt_text.specs.Pieces.{Begins}
use Rattle.tt_instance.specs.Problem.{Problem}
use Rattle.tt_instance.specs.Limits.{IsWithinLimits}
use Rattle.tt_wishes.specs.Lines.{Row, rows_of}
use Rattle.tt_wishes.specs.Reading.{Gives, wish_at, with_words, with_row, wishes_after, wishes_of}
use Rattle.tt_wishes.specs.Spelling.{wish_pieces, IsWish, AreWishes, SpellsWish, has_words, SpellsWishes}
use Rattle.tt_wishes.specs.declared.fault.WishesFault.{WishesFault}
use Rattle.tt_wishes.specs.declared.fault.WishesFault.TheVariants as fault
use Rattle.tt_wishes.specs.declared.format.TheConstants.{MAX_WISHES}
use Rattle.tt_wishes.specs.declared.wish.Wish.{Wish}
use Rattle.tt_wishes.proofs.Loops.{words_none, words_step, rows_none, rows_step}
use Rattle.tt_wishes.proofs.WishLaws.{IsSpelled, wish_takes, wish_reads}

-- ---- rows that are read are spelled

-- the wishes that were read after those before
record RowsTaken (p : Problem) (before : List Wish) (rows : List Row) (all : List Wish) : Type 0 where
  wishes : List Wish
  list : all ≡ before ++ wishes
  zipped : AllZip (SpellsWish p) (filter has_words rows) wishes
  at_most : length before ≤ MAX_WISHES → length all ≤ MAX_WISHES

rows_take : (p : Problem) (before : List Wish) (rows : List Row) (all : List Wish) → IsWithinLimits p → wishes_after p before rows ≡ Ok all
    → RowsTaken p before rows all
unfolding wishes_after
rows_take p before [] all limits e =
    let same : before ≡ all = ok_is before all e in
    record {
      wishes = [];
      list = sym same ∙ sym (append-nil before);
      zipped = tt;
      at_most = λ le. subst (λ (ws : List Wish). length ws ≤ MAX_WISHES) same le;
    }
rows_take p before (row ∷ rows) all limits e =
    let one = bind_ok (with_row p before row) (λ ws. wishes_after p ws rows) all e in
    by_words row.words refl one.0 one.1 (rows_take p one.0 rows all limits one.2)
  where
    by_words : (words : List Placed) → row.words ≡ words → (ws : List Wish) → with_words p before row.end words ≡ Ok ws
        → RowsTaken p ws rows all → RowsTaken p before (row ∷ rows) all
    by_words [] is ws h more =
        let same : before ≡ ws = ok_is before ws h in
        let dropped : filter has_words (row ∷ rows) ≡ filter has_words rows = rw is refl in
        record {
          wishes = more.wishes;
          list = more.list ∙ ap (λ (bs : List Wish). bs ++ more.wishes) (sym same);
          zipped = subst (λ (rs : List Row). AllZip (SpellsWish p) rs more.wishes) (sym dropped) more.zipped;
          at_most = λ le. more.at_most (subst (λ (vs : List Wish). length vs ≤ MAX_WISHES) same le);
        }
    by_words (t ∷ ts) is ws h more =
        let room = refusal_ok (nat_le MAX_WISHES (length before)) (fault.TooManyWishes t.at)
        (wish_at row.end p t ts >>= λ w. Ok (before ++ w ∷ [])) ws h in
        let w = bind_ok (wish_at row.end p t ts) (λ w. Ok (before ++ w ∷ [])) ws room.1 in
        let longer : before ++ w.0 ∷ [] ≡ ws = ok_is (before ++ w.0 ∷ []) ws w.2 in
        let spelled : IsSpelled p t ts w.0 = wish_takes row.end p t ts w.0 limits w.1 in
        let kept : filter has_words (row ∷ rows) ≡ row ∷ filter has_words rows = rw is refl in
        let first : SpellsWish p row w.0 = record {
          words = subst (λ (us : List Placed). Begins (wish_pieces p w.0) us []) (sym is) spelled.0;
          is = spelled.1;
        } in
        let less : length before < MAX_WISHES = leb-false MAX_WISHES (length before) room.0 in
        let long : length ws ≡ length before + 1 = ap length (sym longer) ∙ length-append before (w.0 ∷ []) in
        record {
          wishes = w.0 ∷ more.wishes;
          list = more.list ∙ ap (λ (bs : List Wish). bs ++ more.wishes) (sym longer) ∙ append_assoc before (w.0 ∷ []) more.wishes;
          zipped = subst (λ (rs : List Row). AllZip (SpellsWish p) rs (w.0 ∷ more.wishes)) (sym kept) (first, more.zipped);
          at_most = λ le. more.at_most (omega (arith, less, long));
        }

-- ---- rows that are spelled are read

rows_read : (p : Problem) (before : List Wish) (rows : List Row) (ws : List Wish) → IsWithinLimits p
    → AllZip (SpellsWish p) (filter has_words rows) ws → length before + length ws ≤ MAX_WISHES
    → wishes_after p before rows ≡ Ok (before ++ ws)
rows_read p before [] [] limits zipped at_most =
    rows_none p before [] refl ∙ ap (λ (l : List Wish). done l) (sym (append-nil before))
rows_read p before [] (w ∷ ws) limits zipped at_most = absurd zipped
rows_read p before (row ∷ rows) ws limits zipped at_most =
    by_words row.words refl ws zipped at_most (λ bs vs z le. rows_read p bs rows vs limits z le)
  where
    by_words : (words : List Placed) → row.words ≡ words → (us : List Wish) → AllZip (SpellsWish p) (filter has_words (row ∷ rows)) us
        → length before + length us ≤ MAX_WISHES
        → ((bs vs : List Wish) → AllZip (SpellsWish p) (filter has_words rows) vs → length bs + length vs ≤ MAX_WISHES
        → wishes_after p bs rows ≡ Ok (bs ++ vs))
        → wishes_after p before (row ∷ rows) ≡ Ok (before ++ us)
    by_words [] is us z le more =
        let dropped : filter has_words (row ∷ rows) ≡ filter has_words rows = rw is refl in
        rows_step p before (row ∷ rows) row rows before refl (words_none p before row.end row.words is)
        ∙ more before us (subst (λ (rs : List Row). AllZip (SpellsWish p) rs us) dropped z) le
    by_words (t ∷ ts) is [] z le more =
        let kept : filter has_words (row ∷ rows) ≡ row ∷ filter has_words rows = rw is refl in
        absurd (subst (λ (rs : List Row). AllZip (SpellsWish p) rs []) kept z)
    by_words (t ∷ ts) is (w ∷ us) z le more =
        let kept : filter has_words (row ∷ rows) ≡ row ∷ filter has_words rows = rw is refl in
        let both = subst (λ (rs : List Row). AllZip (SpellsWish p) rs (w ∷ us)) kept z in
        let room : nat_le MAX_WISHES (length before) ≡ false =
        false_from_ne_true (nat_le MAX_WISHES (length before))
        (λ e. let full = leb-true MAX_WISHES (length before) e in omega (arith, full, le)) in
        let words = subst (λ (vs : List Placed). Begins (wish_pieces p w) vs []) is both.0.words in
        let read = wish_reads row.end p t ts w limits (words, both.0.is) in
        let long : length (before ++ w ∷ []) ≡ length before + 1 = length-append before (w ∷ []) in
        rows_step p before (row ∷ rows) row rows (before ++ w ∷ []) refl (words_step p before row.end row.words t ts w is room read)
        ∙ more (before ++ w ∷ []) us both.1 (omega (arith, le, long))
        ∙ ap (λ (l : List Wish). done l) (append_assoc before (w ∷ []) us)

-- ---- a whole file

-- wishes that are read are spelled
pub wishes_spelled : (p : Problem) (bytes : List ℕ) (ws : List Wish) → IsWithinLimits p → wishes_of p bytes ≡ Ok ws
    → SpellsWishes p bytes ws
unfolding wishes_of
wishes_spelled p bytes ws limits e =
    let taken = rows_take p [] (rows_of bytes) ws limits e in
    record {
      rows = subst (λ (us : List Wish). AllZip (SpellsWish p) (filter has_words (rows_of bytes)) us) (sym taken.list) taken.zipped;
      at_most = taken.at_most (omega arith);
    }

-- wishes that are spelled are read
pub wishes_read : (p : Problem) (bytes : List ℕ) (ws : List Wish) → IsWithinLimits p → SpellsWishes p bytes ws → wishes_of p bytes ≡ Ok ws
unfolding wishes_of
wishes_read p bytes ws limits spelled = rows_read p [] (rows_of bytes) ws limits spelled.rows (omega (arith, spelled.at_most))

-- bytes spell at most one list of wishes
pub wishes_once : (p : Problem) (bytes : List ℕ) (us ws : List Wish) → IsWithinLimits p → SpellsWishes p bytes us → SpellsWishes p bytes ws
    → us ≡ ws
wishes_once p bytes us ws limits first second =
    ok_is us ws (sym (wishes_read p bytes us limits first) ∙ wishes_read p bytes ws limits second)

-- the form that the contract states: the result is spelled
pub found_in : {X : Type 0} (items : X → List Wish) (p : Problem) (bytes : List ℕ) (r : Result X WishesFault) → IsWithinLimits p
    → Gives items r (wishes_of p bytes) → IfOk r (λ ws. SpellsWishes p bytes (items ws))
found_in items p bytes (Ok ws) limits given = wishes_spelled p bytes (items ws) limits given
found_in items p bytes (Err f) limits given = tt

-- wishes that are spelled are the instance's
are_wishes : (p : Problem) (rows : List Row) (ws : List Wish) → AllZip (SpellsWish p) rows ws → AreWishes p ws
are_wishes p [] [] z = All-nil (IsWish p)
are_wishes p [] (w ∷ ws) z = absurd z
are_wishes p (row ∷ rows) [] z = absurd z
are_wishes p (row ∷ rows) (w ∷ ws) z = All-cons (IsWish p) w ws z.0.is (are_wishes p rows ws z.1)

pub fits_in : {X : Type 0} (items : X → List Wish) (p : Problem) (bytes : List ℕ) (r : Result X WishesFault)
    → IfOk r (λ ws. SpellsWishes p bytes (items ws)) → IfOk r (λ ws. AreWishes p (items ws))
fits_in items p bytes (Ok ws) found = are_wishes p _ (items ws) found.rows
fits_in items p bytes (Err f) found = tt

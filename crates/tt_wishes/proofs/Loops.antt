-- One iteration of each loop of the reader.
use Rattle.std.proofs.Common.{◌≡◌, ℕ, List, [], ◌∷◌, ◌++◌, Ok, Err, true, false, refl, sym}
use Rattle.std.specs.Prelude.{length, nat_le}
use Rattle.tt_text.specs.Tokens.{Placed}
use Rattle.tt_text.specs.Reading.{◌>>=◌}
use Rattle.tt_text.proofs.Steps.{fails_then, fails_as}
use Rattle.tt_instance.specs.Problem.{Problem}
use Rattle.tt_wishes.specs.Lines.{Row}
use Rattle.tt_wishes.specs.Reading.{is_environmental, Fails, room_of, rooms_after, wish_at, with_words, with_row, wishes_after}
use Rattle.tt_wishes.specs.declared.fault.WishesFault.{WishesFault}
use Rattle.tt_wishes.specs.declared.fault.WishesFault.TheVariants as fault
use Rattle.tt_wishes.specs.declared.format.TheConstants.{MAX_WISHES}
use Rattle.tt_wishes.specs.declared.wish.Wish.{Wish}

-- -- the rooms of a wish

-- no word is left
pub rooms_none : (p : Problem) (before : List ℕ) (ts : List Placed) → ts ≡ [] → rooms_after p before ts ≡ Ok before
unfolding rooms_after
rooms_none p before ts none = rw none refl

-- a word names a room
pub rooms_step : (p : Problem) (before : List ℕ) (ts : List Placed) (t : Placed) (more : List Placed) (r : ℕ)
    → ts ≡ t ∷ more → room_of p t ≡ Ok r → rooms_after p before ts ≡ rooms_after p (before ++ r ∷ []) more
unfolding rooms_after
rooms_step p before ts t more r split is = rw (split, is) refl

-- a word is refused
pub rooms_fail : (f : WishesFault) (p : Problem) (before : List ℕ) (ts : List Placed) (t : Placed) (more : List Placed)
    → ts ≡ t ∷ more → Fails f (room_of p t) → Fails f (rooms_after p before ts)
unfolding rooms_after
rooms_fail f p before ts t more split fails =
    let go = λ (r : ℕ). rooms_after p (before ++ r ∷ []) more in
    let step : rooms_after p before ts ≡ (room_of p t >>= go) = rw split refl in
    fails_as is_environmental f _ _ (sym step) (fails_then is_environmental f (room_of p t) go fails)

-- -- the words of a line

-- there is no word
pub words_none : (p : Problem) (before : List Wish) (end : ℕ) (ts : List Placed) → ts ≡ [] → with_words p before end ts ≡ Ok before
words_none p before end ts none = rw none refl

-- there is a word, but no further wish is allowed
pub words_full : (p : Problem) (before : List Wish) (end : ℕ) (ts : List Placed) (t : Placed) (more : List Placed) → ts ≡ t ∷ more
    → nat_le MAX_WISHES (length before) ≡ true → with_words p before end ts ≡ Err (fault.TooManyWishes t.at)
words_full p before end ts t more split full = rw (split, full) refl

-- the words are a wish
pub words_step : (p : Problem) (before : List Wish) (end : ℕ) (ts : List Placed) (t : Placed) (more : List Placed) (w : Wish)
    → ts ≡ t ∷ more
    → nat_le MAX_WISHES (length before) ≡ false → wish_at end p t more ≡ Ok w → with_words p before end ts ≡ Ok (before ++ w ∷ [])
words_step p before end ts t more w split room is = rw (split, room, is) refl

-- the words are refused
pub words_fail : (f : WishesFault) (p : Problem) (before : List Wish) (end : ℕ) (ts : List Placed) (t : Placed) (more : List Placed)
    → ts ≡ t ∷ more → nat_le MAX_WISHES (length before) ≡ false → Fails f (wish_at end p t more) → Fails f (with_words p before end ts)
words_fail f p before end ts t more split room fails =
    let go = λ (w : Wish). Ok (before ++ w ∷ []) in
    let step : with_words p before end ts ≡ (wish_at end p t more >>= go) = rw (split, room) refl in
    fails_as is_environmental f _ _ (sym step) (fails_then is_environmental f (wish_at end p t more) go fails)

-- -- the lines of a text

-- no line is left
pub rows_none : (p : Problem) (before : List Wish) (rows : List Row) → rows ≡ [] → wishes_after p before rows ≡ Ok before
unfolding wishes_after
rows_none p before rows none = rw none refl

-- a line is read
pub rows_step : (p : Problem) (before : List Wish) (rows : List Row) (row : Row) (more : List Row) (ws : List Wish)
    → rows ≡ row ∷ more → with_row p before row ≡ Ok ws → wishes_after p before rows ≡ wishes_after p ws more
unfolding wishes_after
rows_step p before rows row more ws split is = rw (split, is) refl

-- a line is refused
pub rows_fail : (f : WishesFault) (p : Problem) (before : List Wish) (rows : List Row) (row : Row) (more : List Row)
    → rows ≡ row ∷ more → Fails f (with_row p before row) → Fails f (wishes_after p before rows)
unfolding wishes_after
rows_fail f p before rows row more split fails =
    let go = λ (ws : List Wish). wishes_after p ws more in
    let step : wishes_after p before rows ≡ (with_row p before row >>= go) = rw split refl in
    fails_as is_environmental f _ _ (sym step) (fails_then is_environmental f (with_row p before row) go fails)

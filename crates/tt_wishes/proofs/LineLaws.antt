-- The next line of a text.
use Rattle.std.proofs.Common.{◌≡◌, ℕ, ◌+◌, ◌-◌, ◌<◌, ◌≤◌, Bool, true, false, List, [], ◌∷◌, length, take, drop, refl, sym, ap, subst, ◌∙◌, arith, inl, inr, ne_eqb}
use Rattle.std.specs.Prelude.{◌==◌, All}
use Rattle.std.specs.List.{prefix_len, slice_split, list_all}
use Rattle.std.proofs.lemmas.Bool.{cases_lt, not-true}
use Rattle.std.proofs.lemmas.List.{take_all, drop_all, drop-drop, length-drop, length-take-le}
use Rattle.std.proofs.lemmas.List.Elements.{All-weaker, All-from_recursion}
use Rattle.std.proofs.lemmas.List.Splits.{slice_split_none, slice_split_first}
use Rattle.tt_list_laws.proofs.Sums.{each_from_list_all}
use Rattle.tt_text.proofs.Runs.{run_passes}
use Rattle.tt_wishes.specs.Lines.{row_of, rows_of_lines, rows_left, is_line_feed, is_in_line}

-- of no bytes none are left
pub nothing_dropped : (bytes : List ℕ) → length bytes ≡ 0 → bytes ≡ drop 1 bytes
nothing_dropped [] e = refl
nothing_dropped (b ∷ bs) e = absurd (omega (arith, e))

-- what is left behind a line is no longer than before
pub left_shorter : (len : ℕ) (rest behind after : List ℕ) → behind ≡ drop len rest → after ≡ drop 1 behind → length after ≤ length rest
left_shorter len rest behind after behind_is after_is =
    let back : length behind ≡ length rest - len = ap length behind_is ∙ length-drop len rest in
    let left : length after ≡ length behind - 1 = ap length after_is ∙ length-drop 1 behind in
    omega (arith, back, left)

module _ (at next len : ℕ) (rest text behind after : List ℕ) (over : Bool) (len_is : len ≡ prefix_len is_in_line rest)
    (text_is : text ≡ take len rest) (behind_is : behind ≡ drop len rest) (after_is : after ≡ drop 1 behind)
    (next_is : next ≡ at + (length rest - length after)) (over_is : over ≡ (length behind == 0)) where
  -- a line feed is behind the line
  before_feed : len < length rest → rows_of_lines at (slice_split is_line_feed rest) ≡ row_of at text ∷ rows_left over next after
  before_feed below =
      let split : slice_split is_line_feed rest ≡ take len rest ∷ slice_split is_line_feed (drop (len + 1) rest) =
      subst (λ n. slice_split is_line_feed rest ≡ take n rest ∷ slice_split is_line_feed (drop (n + 1) rest)) (sym len_is)
      (slice_split_first is_line_feed rest 0 (subst (λ n. n < length rest) len_is below)) in
      let some : length behind ≡ length rest - len = ap length behind_is ∙ length-drop len rest in
      let goes_on : over ≡ false = over_is ∙ ne_eqb (length behind) 0 (λ e. omega (arith, e, some, below)) in
      let later : after ≡ drop (len + 1) rest = after_is ∙ ap (drop 1) behind_is ∙ drop-drop 1 len rest in
      let left : length after ≡ length rest - (len + 1) = ap length later ∙ length-drop (len + 1) rest in
      let long : length text ≡ len = ap length text_is ∙ length-take-le len rest (omega (arith, below)) in
      let moved : next ≡ at + (length text + 1) = omega (arith, next_is, left, long, below) in
      let tail : row_of at text ∷ rows_left over next after
      ≡ row_of at (take len rest) ∷ rows_of_lines (at + (length (take len rest) + 1)) (slice_split is_line_feed (drop (len + 1) rest)) =
      rw (goes_on, moved, later, text_is) refl in
      ap (rows_of_lines at) split ∙ sym tail

  -- the text ends with the line
  before_end : length rest ≤ len → rows_of_lines at (slice_split is_line_feed rest) ≡ row_of at text ∷ rows_left over next after
  before_end all =
      let whole : text ≡ rest = text_is ∙ take_all len rest all in
      let none : behind ≡ [] = behind_is ∙ drop_all len rest all in
      let closed : over ≡ true = over_is ∙ ap (λ (b : List ℕ). length b == 0) none in
      let passes : list_all is_in_line rest ≡ true =
      subst (λ bytes. list_all is_in_line bytes ≡ true) (ap (λ n. take n rest) (sym len_is) ∙ take_all len rest all)
      (run_passes is_in_line rest) in
      let each : All (λ b. is_line_feed b ≡ false) rest =
      All-weaker (λ b. is_in_line b ≡ true) (λ b. is_line_feed b ≡ false) (λ b e. not-true (is_line_feed b) e) rest
      (All-from_recursion (λ b. is_in_line b ≡ true) rest (each_from_list_all is_in_line rest passes)) in
      let tail : row_of at text ∷ rows_left over next after ≡ row_of at rest ∷ [] = rw (closed, whole) refl in
      ap (rows_of_lines at) (slice_split_none is_line_feed rest each) ∙ sym tail

  pub next_row : rows_of_lines at (slice_split is_line_feed rest) ≡ row_of at text ∷ rows_left over next after
  next_row = elim (cases_lt len (length rest)) [ inl below ↦ before_feed below | inr all ↦ before_end all ]

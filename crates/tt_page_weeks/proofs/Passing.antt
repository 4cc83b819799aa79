-- Texts of the elements that pass a test.
use Rattle.std.proofs.Common.{◌≡◌, ℕ, Bool, true, false, List, ◌∷◌, sym, ap, ◌∙◌}
use Rattle.std.specs.Prelude.{flat_map, filter}
use Rattle.tt_page_text.proofs.Passing.{kept, left_out}
use Rattle.tt_page_text.specs.Puts.{put_text}
use Rattle.tt_page_text.specs.Windowed.{PageState}
use Rattle.tt_page_text.proofs.Growing.{text_ahead}

module _ {X : Type 0} (p : X → Bool) where
  -- the text of an element that passes was put
  pub shown_one : (f : X → List ℕ) (x : X) (xs left : List X) (first old new : PageState) → left ≡ x ∷ xs → p x ≡ true
      → new ≡ put_text old (f x) → put_text old (flat_map f (filter p left)) ≡ first → put_text new (flat_map f (filter p xs)) ≡ first
  shown_one f x xs left first old new is pass more before =
      text_ahead f x (filter p xs) (filter p left) first old new (ap (filter p) is ∙ kept p x xs pass) more before

  pub passed_one : (f : X → List ℕ) (x : X) (xs left : List X) (first old : PageState) → left ≡ x ∷ xs → p x ≡ false
      → put_text old (flat_map f (filter p left)) ≡ first → put_text old (flat_map f (filter p xs)) ≡ first
  passed_one f x xs left first old is fail before =
      ap (λ es. put_text old (flat_map f es)) (sym (ap (filter p) is ∙ left_out p x xs fail)) ∙ before

-- Examples of texts that are put.
use Rattle.std.proofs.Common.{◌≡◌, Some, None, refl}
use Rattle.std.specs.Prelude.{codes}
use Rattle.tt_page_text.specs.Puts.{put_text, too_many, total_of, window}
use Rattle.tt_page_text.specs.Windowed.{PageState}

-- the window has the third byte and the fourth
abbrev at_two : PageState
at_two = window 2 2 too_many

before : (put_text at_two (codes "a")).bytes ≡ codes ""
unfolding put_text
before = refl

across : (put_text (put_text at_two (codes "ab")) (codes "cde")).bytes ≡ codes "cd"
unfolding put_text
across = refl

counted : total_of (put_text at_two (codes "abcde")) ≡ Some 5
unfolding put_text
counted = refl

-- a text is too large if no byte was left
too_large : total_of (window 2 2 0) ≡ None
too_large = refl

-- only as many bytes are taken as are left
cut : (put_text (window 2 2 3) (codes "abcde")).bytes ≡ codes "c"
unfolding put_text
cut = refl

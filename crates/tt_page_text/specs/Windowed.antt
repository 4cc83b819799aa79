-- The text of a page, of which a window is in memory.
use Rattle.std.specs.Prelude.{ℕ, List}

-- How far the text of a page was put: how many more of its bytes come before the window, the most bytes that the window has, how many more bytes
-- are taken at all, and the bytes in the window so far.
pub record PageState : Type 0 where
  pub before : ℕ
  pub size : ℕ
  pub left : ℕ
  pub bytes : List ℕ

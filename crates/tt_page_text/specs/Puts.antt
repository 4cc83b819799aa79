-- How the text of a page grows, up to a limit, in a window.
use Rattle.std.specs.Prelude.{ℕ, ◌+◌, ◌-◌, ◌<◌, ◌==◌, List, [], ◌++◌, length, take, drop, Option, Some, None, if◌then◌else◌}
use Rattle.tt_page_text.specs.Windowed.{PageState}
use Rattle.tt_page_text.specs.declared.page_text.TheConstants.{MAX_PAGE_BYTES}

-- A page with this text would have more bytes than a page may have.
abbrev pub IsTooLarge : List ℕ → Type 0
IsTooLarge text = MAX_PAGE_BYTES < length text

-- The least number of bytes that is too large for a page.
abbrev pub too_many : ℕ
too_many = MAX_PAGE_BYTES + 1

-- A window that begins at a byte of the text and has at most this size, before any of the text was put, of which at most so many bytes are taken.
abbrev pub window : ℕ → ℕ → ℕ → PageState
window from size left = record { before = from; size = size; left = left; bytes = [] }

-- More bytes of the text were taken. Those behind the window's beginning are appended to those in the window, as far as it has room.
abbrev pub take_in : PageState → List ℕ → PageState
take_in s text = record {
  before = s.before - length text;
  size = s.size;
  left = s.left - length text;
  bytes = s.bytes ++ take (s.size - length s.bytes) (drop s.before text);
}

-- More of the text was put, of which only as many bytes are taken as are left.
unfoldable pub put_text : PageState → List ℕ → PageState
put_text s text = take_in s (take s.left text)

-- The number of bytes that were put, unless they are too many for a page, if so many are taken that it shows.
abbrev pub total_of : PageState → Option ℕ
total_of s = if s.left == 0 then None else Some (too_many - s.left)

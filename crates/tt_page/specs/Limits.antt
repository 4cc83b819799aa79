-- The size of a page, which has a limit.
use Rattle.std.specs.Prelude.{ℕ, ◌≤◌, List, length}
use Rattle.tt_page_text.specs.declared.page_text.TheConstants.{MAX_PAGE_BYTES}

-- A page may have this text.
abbrev pub IsWithinLimit : List ℕ → Type 0
IsWithinLimit text = length text ≤ MAX_PAGE_BYTES

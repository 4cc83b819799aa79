-- Names in a report, as they are shown to people.
use Rattle.std.specs.Prelude.{ℕ, List, flat_map, chars, codes, encode_utf8, if◌then◌else◌}
use Rattle.std.specs.Char.{is_control}
use Rattle.std.specs.Str.Lossy.{utf8_lossy}

-- The text of a letter: a control character becomes a question mark.
abbrev pub letter_text : ℕ → List ℕ
letter_text c = if is_control c then codes "?" else encode_utf8 c

-- The text of all letters of a name; bytes that are not UTF-8 are read as U+FFFD.
unfoldable pub shown : List ℕ → List ℕ
shown name = flat_map letter_text (chars (utf8_lossy name))

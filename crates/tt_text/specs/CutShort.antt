-- The stream of a feed, for bytes after which a read fails.
use Rattle.std.specs.Prelude.{◌≡◌, ℕ, ◌-◌, false, List, [], ◌++◌, length, take, Option, Some, None, Result, Ok, Err, unwrap_or}
use Rattle.std.specs.Option.{option_map}
use Rattle.tt_text.specs.Tokens.{Placed}
use Rattle.tt_text.specs.Feeds.{Stream, stream_with, Fed, stream_at}
use Rattle.tt_text.specs.declared.feed.FeedFault.{FeedFault}
use Rattle.tt_text.specs.declared.feed.FeedFault.TheVariants.{Read}

-- The stream with these tokens and this end, if a read fails after its bytes: the tokens as far as another byte follows them, and then the failed
-- read. If the end is a fault, it is the stream of all these tokens and that fault.
abbrev pub cut_short_by : List Placed → Result ℕ FeedFault → Stream
cut_short_by ts (Ok n) = stream_with (Some (record { byte = n; fault = Read })) n ts
cut_short_by ts (Err f) = record { tokens = ts; stop = Err f }

-- The stream of bytes after which a read fails. It ends in that failure, and a token that no byte follows counts as incomplete. If a limit is
-- passed before, the stream stays as it is.
abbrev pub cut_short : Stream → Stream
cut_short s = cut_short_by s.tokens s.stop

-- Known bytes without the given ones at their end.
abbrev pub all_before : List ℕ → Option (List ℕ) → Option (List ℕ)
all_before rest known = option_map (λ xs. take (length xs - length rest) xs) known

-- The remaining bytes, if they are known.
abbrev pub rest_of : Option (List ℕ) → List ℕ
rest_of known = unwrap_or known []

-- The stream of a feed from here on, if a read fails before the last bytes, `rest`.
unfoldable pub cut_at : List ℕ → Fed → Option (List ℕ) → Stream
cut_at rest fed known = cut_short (stream_at fed (all_before rest known))

-- A read may still fail before the last bytes, `rest`.
pub record MayFail (rest : List ℕ) (fed : Fed) (known : Option (List ℕ)) : Type 0 where
  pub given : List ℕ
  pub bytes : known ≡ Some (given ++ rest)
  pub goes_on : fed.fault ≡ None → fed.ended ≡ false

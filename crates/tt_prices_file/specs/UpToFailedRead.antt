-- What is known of a file after a failed read.
use Rattle.std.specs.Prelude.{◌≡◌, Err, ◌⊎◌}
use Rattle.tt_text.specs.Feeds.{Stream}
use Rattle.tt_instance.specs.Problem.{Problem}
use Rattle.tt_proof_check.specs.Streams.{sizes_of}
use Rattle.tt_proof_read.specs.Faults.{read_failed}
use Rattle.tt_prices_text.specs.Reading.{header_at, item_at}
use Rattle.tt_prices_text.specs.declared.fault.PricesTextFault.TheVariants.{Text}
use Rattle.tt_prices_file.specs.Faults.{AfterParts}

-- The failure is within the header, or after parts that have been read and pass.
abbrev pub ArePricesCutOff : Problem → Stream → Type 0
ArePricesCutOff p s =
    (header_at s ≡ Err (Text read_failed)) ⊎ AfterParts p s (λ h parts rest. item_at (sizes_of p) h.has_rooms rest ≡ Err (Text read_failed))

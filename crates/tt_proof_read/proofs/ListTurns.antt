-- The courses of a list, before the first of them.
use Rattle.std.proofs.Common.{◌≡◌, ℕ, List, [], sym, subst}
use Rattle.std.specs.List.{push}
use Rattle.tt_text.specs.Feeds.{Stream}
use Rattle.tt_proof_read.specs.Reading.{listed_at, list_at}
use Rattle.tt_proof_read.specs.declared.sizes.Sizes.{Sizes}
use Rattle.tt_proof_read.proofs.Loops.{IsLeft, all_left}

-- all courses are left
pub list_left : (sizes : Sizes) (items : List ℕ) (s : Stream) → items ≡ [] → IsLeft push (listed_at sizes) items s (list_at sizes s)
unfolding list_at
list_left sizes items s e = subst (λ l. IsLeft push (listed_at sizes) l s (list_at sizes s)) (sym e) (all_left push (listed_at sizes) [] s)

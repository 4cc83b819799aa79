-- The claims of a cost leaf, before the first of them.
use Rattle.std.proofs.Common.{◌≡◌, ℕ, List, [], sym, subst}
use Rattle.std.specs.List.{push}
use Rattle.tt_text.specs.Feeds.{Stream}
use Rattle.tt_leaf.specs.declared.leaf.Claim.{Claim}
use Rattle.tt_proof_read.specs.Reading.{claim_at, claims_at}
use Rattle.tt_proof_read.specs.declared.sizes.Sizes.{Sizes}
use Rattle.tt_proof_read.proofs.Loops.{IsLeft, all_left}

-- all claims are left
pub claims_left : (sizes : Sizes) (version : ℕ) (items : List Claim) (s : Stream) → items ≡ []
    → IsLeft push (λ _ rest. claim_at sizes version rest) items s (claims_at sizes version s)
unfolding claims_at
claims_left sizes version items s e = subst (λ l. IsLeft push (λ _ rest. claim_at sizes version rest) l s (claims_at sizes version s))
    (sym e) (all_left push (λ _ rest. claim_at sizes version rest) [] s)

-- The state of a reader of nodes, and the meaning of its results.
use Rattle.std.specs.Prelude.{◌≡◌, ℕ, ◌+◌, ◌-◌, ◌<◌, true, is_some, List, Option, Some, None, Result, Ok, Err, ⊤}
use Rattle.tt_instance.specs.Problem.{Problem}
use Rattle.tt_leaf.specs.declared.leaf.Bound.{Bound}
use Rattle.tt_leaf.specs.declared.leaf.Claim.{Claim}
use Rattle.tt_text.specs.Feeds.{Fed, Stream, fresh}
use Rattle.tt_text.specs.CutShort.{cut_at, MayFail}
use Rattle.tt_text.specs.Reading.{FailsUnless}
use Rattle.tt_proof_read.specs.Answers.{AgreesWhenCutAs}
use Rattle.tt_proof_read.specs.Faults.{is_environmental}
use Rattle.tt_proof_read.specs.Reading.{header_at, node_at}
use Rattle.tt_proof_read.specs.Sizes.{AreSizes}
use Rattle.tt_proof_read.specs.Spelling.{IsClaim, IsNode}
use Rattle.tt_proof_read.specs.declared.claims.ClaimWord.{ClaimWord}
use Rattle.tt_proof_read.specs.declared.claims.ClaimWord.TheVariants.{Capacity, Days, Compact, Stable, Prices, Stacked}
use Rattle.tt_proof_read.specs.declared.fault.TextFault.{TextFault}
use Rattle.tt_proof_read.specs.declared.node.Node.{Node}
use Rattle.tt_proof_read.specs.declared.node.Node.TheVariants.{Split, Leaf}
use Rattle.tt_proof_read.specs.declared.sizes.Sizes.{Sizes}

-- `Prices` and `Stacked` are words of version 2.
abbrev pub IsWordIn : ℕ → ClaimWord → Type 0
IsWordIn version Capacity = ⊤
IsWordIn version Days = ⊤
IsWordIn version Compact = ⊤
IsWordIn version Stable = ⊤
IsWordIn version Prices = version ≡ 2
IsWordIn version Stacked = version ≡ 2

-- A claim of this version on any problem of these sizes.
abbrev pub IsClaimAt : Sizes → ℕ → Claim → Type 0
IsClaimAt sizes version claim = (p : Problem) → AreSizes p sizes → IsClaim p version claim

-- A node of this version on any problem of these sizes.
abbrev pub IsNodeAt : Sizes → ℕ → Node → Type 0
IsNodeAt sizes version node = (p : Problem) → AreSizes p sizes → IsNode p version node

-- A reader: its feed, the contents of the header, how many nodes were read, how many places of the tree are open, and its fault.
pub record Reader : Type 0 where
  pub fed : Fed
  pub sizes : Sizes
  pub version : ℕ
  pub bound : Bound
  pub count : ℕ
  pub places : ℕ
  pub fault : Option TextFault

-- The number of open places after a node.
abbrev pub places_after : Node → ℕ → ℕ
places_after (Split g) n = n + 1
places_after (Leaf leaf) n = n - 1

-- `None` if the tree is complete; otherwise a node, which fills a place, or a fault, which the reader stores.
abbrev pub IsReaderAfter : Reader → Result (Option Node) TextFault → Reader → Type 0
IsReaderAfter old (Ok None) new = (old.places ≡ 0) × (new ≡ old)
IsReaderAfter old (Ok (Some node)) new = (0 < old.places) × (new ≡ record old { fed = new.fed; count = old.count + 1; places = places_after node old.places })
IsReaderAfter old (Err f) new = (0 < old.places) × (new ≡ record old { fed = new.fed; fault = Some f })

-- The result is what the stream gives.
abbrev pub IsReadingOf : Reader → Stream → Result (Option Node) TextFault → Stream → Type 0
IsReadingOf old s (Ok None) after = after ≡ s
IsReadingOf old s (Ok (Some node)) after = node_at old.sizes old.version old.count s ≡ Ok (node, after)
IsReadingOf old s (Err f) after = FailsUnless is_environmental f (node_at old.sizes old.version old.count s)

-- What a reader says about a failed read, after it has read its header or failed to.
abbrev pub HeaderAgreesWhenCut : Option (List ℕ) → Result Reader TextFault → Option (List ℕ) → Type 0
HeaderAgreesWhenCut before (Ok r) after = AgreesWhenCutAs {X = ℕ × Bound} fresh before r.fed after (λ h. h) (Ok (r.version, r.bound)) header_at
HeaderAgreesWhenCut before (Err f) after = AgreesWhenCutAs {X = ℕ × Bound} fresh before fresh after (λ h. h) (Err f) header_at

-- What a reader says about a failed read, after it has read a node or failed to.
abbrev pub NodeAgreesWhenCut : Reader → Option (List ℕ) → Result (Option Node) TextFault → Fed → Option (List ℕ) → Type 0
NodeAgreesWhenCut old before (Ok None) new after =
    is_some before ≡ true → (rest : List ℕ) → MayFail rest new after → MayFail rest old.fed before × (cut_at rest new after ≡ cut_at rest old.fed before)
NodeAgreesWhenCut old before (Ok (Some node)) new after = AgreesWhenCutAs {X = Node} old.fed before new after (λ n. n) (Ok node) (node_at old.sizes old.version old.count)
NodeAgreesWhenCut old before (Err f) new after = AgreesWhenCutAs {X = Node} old.fed before new after (λ n. n) (Err f) (node_at old.sizes old.version old.count)

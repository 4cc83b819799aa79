-- The meaning of an upgrade of a proof, and of a refusal.
use Rattle.std.specs.Prelude.{◌≡◌, ℕ, List, []}
use Rattle.tt_text.specs.Feeds.{Stream}
use Rattle.tt_instance.specs.Problem.{Problem}
use Rattle.tt_leaf.specs.declared.leaf.Bound.{Bound}
use Rattle.tt_proof_read.specs.Reads.{Reads}
use Rattle.tt_proof_read.specs.Spelling.{SpellsProof}
use Rattle.tt_proof_read.specs.Trees.{Tree, preorder, IsShallow}
use Rattle.tt_proof_check.specs.Derives.{Derives}
use Rattle.tt_proof_check.specs.Streams.{sizes_of}
use Rattle.tt_proof_check.specs.Explains.{FailsAt, IsDeepAt}
use Rattle.tt_proof_check.specs.declared.fault.CheckFault.TheVariants as check
use Rattle.tt_proof_write.specs.Within.{FitsFile}
use Rattle.tt_proof_write.specs.Written.{proof_text}
use Rattle.tt_proof_upgrade.specs.Texts.{IsTextFault}
use Rattle.tt_proof_upgrade.specs.declared.fault.UpgradeFault.{UpgradeFault}
use Rattle.tt_proof_upgrade.specs.declared.fault.UpgradeFault.TheVariants.{Proof, TooLarge}

-- The bytes spell a tree that derives the bound, and the output is the text of this tree in version 2, which spells it again.
pub record IsUpgraded (p : Problem) (bytes : List ℕ) (b : Bound) (out : List ℕ) : Type 0 where
  pub version : ℕ
  pub tree : Tree
  pub spelled : SpellsProof p bytes version b tree
  pub derives : Derives p b [] tree
  pub text : out ≡ proof_text 2 b (preorder tree)
  pub again : SpellsProof p out 2 b tree

-- The whole text is that of a tree, with its bound.
pub record HasTree (p : Problem) (s : Stream) (P : Bound → Tree → Type 0) : Type 0 where
  pub version : ℕ
  pub bound : Bound
  pub tree : Tree
  pub reads : Reads (sizes_of p) s version bound tree
  pub is : P bound tree

-- The tree derives the bound, and its text in version 2 is larger than a file may be.
pub record IsTooLarge (p : Problem) (b : Bound) (tree : Tree) : Type 0 where
  pub shallow : IsShallow tree
  pub derives : Derives p b [] tree
  pub large : ¬ (FitsFile 2 b (preorder tree))

-- A fault of the text is reported before one of a node; if a node has a fault, the text has none.
abbrev pub IsUpgradeFault : Problem → Stream → UpgradeFault → Type 0
IsUpgradeFault p s (Proof (check.Text f)) = IsTextFault p s f
IsUpgradeFault p s (Proof (check.Rule i f)) = HasTree p s (λ b tree. FailsAt p [] b tree i f)
IsUpgradeFault p s (Proof (check.TooDeep i)) = HasTree p s (λ b tree. IsDeepAt p [] b tree i)
IsUpgradeFault p s TooLarge = HasTree p s (λ b tree. IsTooLarge p b tree)

-- The lines of small proofs.
use Rattle.std.proofs.Common.{◌≡◌, List, [], ◌∷◌, None, Some, codes, refl}
use Rattle.tt_text.specs.Pieces.{Piece, Text, Number, Index}
use Rattle.tt_path.specs.declared.facts.Who.TheVariants.{Curriculum}
use Rattle.tt_leaf.specs.declared.leaf.Bound.TheVariants.{AtLeast, Nothing}
use Rattle.tt_leaf.specs.declared.leaf.Claim.TheVariants.{Prices, Stacked}
use Rattle.tt_leaf.specs.declared.leaf.Leaf.TheVariants.{Clique, Cost}
use Rattle.tt_proof_read.specs.declared.node.Node.TheVariants.{Split, Leaf}
use Rattle.tt_proof_write.specs.Written.{proof_lines}

end_line : List Piece
end_line = Text (codes "end") ∷ []

-- a split on a curriculum, and its two leaves
a_split : proof_lines 1 Nothing (Split (record { who = Curriculum 0; room = None; day = Some 0; period = Some 12 }) ∷ Leaf
    (Clique (1 ∷ 0 ∷ [])) ∷ Leaf (Cost []) ∷ [])
    ≡ (Text (codes "CTTP") ∷ Text (codes "1") ∷ Text (codes "bound") ∷ Text (codes "none") ∷ [])
    ∷ (Text (codes "S") ∷ Index 113 0 ∷ Text (codes "*") ∷ Index 100 0 ∷ Index 112 12 ∷ [])
    ∷ (Text (codes "K") ∷ Index 99 1 ∷ Index 99 0 ∷ Text (codes ";") ∷ [])
    ∷ (Text (codes "B") ∷ Text (codes ";") ∷ [])
    ∷ end_line ∷ []
unfolding end_line
a_split = refl

-- the prices of courses before those of rooms
some_prices : proof_lines 2 (AtLeast 5) (Leaf (Cost (Prices ((0, 5) ∷ (1, 5) ∷ []) ((0, 5) ∷ []) ∷ Stacked 1 ∷ [])) ∷ [])
    ≡ (Text (codes "CTTP") ∷ Text (codes "2") ∷ Text (codes "bound") ∷ Number 5 ∷ [])
    ∷ (Text (codes "B") ∷ Text (codes "P") ∷ Index 99 0 ∷ Number 5 ∷ Index 99 1 ∷ Number 5 ∷ Index 114 0 ∷ Number 5 ∷ Text
    (codes "/") ∷ Text (codes "T") ∷ Index 99 1 ∷ Text (codes ";") ∷ [])
    ∷ end_line ∷ []
unfolding end_line
some_prices = refl

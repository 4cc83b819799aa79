use Rattle.std.proofs.Common.{ℕ, List, sym, ap, ◌∙◌}
use Rattle.tt_leaf_rules.specs.Faults.{fault_of}
use Rattle.tt_leaf.specs.declared.leaf.Leaf.{Leaf}
use Rattle.tt_leaf.specs.declared.leaf.Leaf.TheVariants.{Clique}
use Rattle.tt_leaf_rules.proofs.checking.fault_of.Goals as goal

pub returns-in-Clique : goal.returns-in-Clique
returns-in-Clique g c =
    let fault : Leaf → _ = fault_of (g.P.Path.problem c.args.path.now) (g.P.Path.facts c.args.path.now) c.args.bound in
    c.fault_of_clique.ensures ∙ ap (λ (cs : List ℕ). fault (Clique cs)) c.as_slice.ensures ∙ ap fault (sym c.in-Clique.is)

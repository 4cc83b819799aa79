use Rattle.std.proofs.Common.{◌∷◌, ◌++◌, [], sym, ap, ◌∙◌, subst, refl, List}
use Rattle.std.specs.Prelude.{slice_get}
use Rattle.tt_branch.specs.declared.tree_node.TreeNode.{TreeNode}
use Rattle.tt_branch.specs.declared.tree_node.NodeState.TheVariants.{Unopened}
use Rattle.tt_branch.specs.Inner.Growing.{IsGrown}
use Rattle.tt_branch.specs.Inner.BestSoFar.{table_of}
use Rattle.tt_branch.specs.Inner.Links.{AreLinks}
use Rattle.tt_branch.proofs.Chains.{no_links}
use Rattle.tt_branch.proofs.Searching.{grow_root}
use Rattle.tt_branch.proofs.search.Search.new.Goals as goal

abbrev first : TreeNode
first = record { mark = Unopened; link = 0; key = 0; rises = record { yes = 0; no = 0 } }

pub returns-clause-under_way : goal.returns-clause-under_way
returns-clause-under_way c = λ p root patterns k f.
    let items = c.in_ok-push.ensures.items ∙ ap (λ l. l ++ first ∷ []) c.new-tree_nodes.ensures.items in
    let links = c.new.ensures.items in
    record {
      kept = k;
      fits = f;
      links = subst AreLinks (sym links) no_links;
      grown = subst (λ l. IsGrown p root (table_of c.args.best) l c.push.new.self.items) (sym links)
          (subst (λ es. IsGrown p root (table_of c.args.best) [] es) (sym items)
          (grow_root p root (table_of c.args.best) first patterns refl refl));
    }

pub returns-clause-waiting : goal.returns-clause-waiting
returns-clause-waiting c =
    let items = c.in_ok-push.ensures.items ∙ ap (λ l. l ++ first ∷ []) c.new-tree_nodes.ensures.items in
    (first, ap (λ (l : List TreeNode). slice_get l 0) items, refl)

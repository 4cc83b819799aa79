use Rattle.std.proofs.Common.{◌≡◌, ℕ, ◌≤◌, List, length, refl, sym, ap, ◌∙◌, subst, arith}
use Rattle.std.proofs.lemmas.Option.{get_or_from_slice_get, slice_get_within}
use Rattle.tt_list_laws.proofs.Tested.{each_at}
use Rattle.tt_instance.specs.Problem.{Problem}
use Rattle.tt_path.specs.declared.facts.Fact.{Fact}
use Rattle.tt_leaf_find.specs.Found.{ArePatterns}
use Rattle.tt_branch.specs.declared.tree_node.TreeNode.{TreeNode}
use Rattle.tt_branch.specs.declared.links.Link.{Link}
use Rattle.tt_branch.specs.Inner.BestSoFar.{IsBestSoFar, FitsRoot, table_of, Advances}
use Rattle.tt_branch.specs.Inner.Links.{path_at, AreLinks}
use Rattle.tt_branch.proofs.Advancing.{IsThere, each_there, advance_above, opening_there}
use Rattle.tt_branch.proofs.visit.open_at.Goals as goal

pub go_to-requires : goal.go_to-requires
go_to-requires g c = λ κs.
    let p = g.P.Path.problem c.args.path.now in
    let s = c.args.search.now in
    let root = c.args.root.now in
    let e = c.requires.waiting.0 in
    let there = each_at (IsThere p root s.links.items) s.tree_nodes.items c.args.place e
    (each_there p root (table_of s.best) s.links.items s.tree_nodes.items c.requires.under_way.grown c.requires.at_most)
    c.requires.waiting.1 in
    let read = c.index.result.now in
    let link = ap (λ (x : TreeNode). x.link)
    (c.index.ensures ∙ get_or_from_slice_get s.tree_nodes.items c.args.place e read c.requires.waiting.1) in
    let links = sym c.as_slice.ensures.value in (
      (refl, tt),
      (
        c.requires.rooted,
        (
          subst AreLinks links c.requires.under_way.links,
          (
            subst (λ (l : List Link). read.link ≤ length l) links
                (subst (λ (n : ℕ). n ≤ length s.links.items) (sym link) there.reached.within),
            subst (λ (l : List Link). length (path_at root l read.link) ≤ 65536) links
                (subst (λ (n : ℕ). length (path_at root s.links.items n) ≤ 65536) (sym link) there.reached.depth),
          ),
        ),
      ),
    )

pub open-requires : goal.open-requires
open-requires g c = λ κs.
    let p = g.P.Path.problem c.args.path.now in
    let s = c.args.search.now in
    let root = c.args.root.now in
    let e = c.requires.waiting.0 in
    let there = each_at (IsThere p root s.links.items) s.tree_nodes.items c.args.place e
    (each_there p root (table_of s.best) s.links.items s.tree_nodes.items c.requires.under_way.grown c.requires.at_most)
    c.requires.waiting.1 in
    let read = c.index.result.now in
    let link = ap (λ (x : TreeNode). x.link)
    (c.index.ensures ∙ get_or_from_slice_get s.tree_nodes.items c.args.place e read c.requires.waiting.1) in
    let same = sym c.in_ok-go_to.ensures.unchanged in
    let facts : path_at root s.links.items e.link ≡ g.P.Path.facts c.go_to.new.path =
    sym (c.in_ok-go_to.ensures.there ∙ ap (λ (l : List Link). path_at root l read.link) c.as_slice.ensures.value
    ∙ ap (path_at root s.links.items) link) in (
      (refl, tt),
      (
        subst (λ (q : Problem). IsBestSoFar q s.best) same c.requires.under_way.kept,
        subst (λ (q : Problem). ArePatterns q (g.P.Path.facts c.go_to.new.path)) same
            (subst (λ (l : List Fact). ArePatterns p l) facts there.patterns),
      ),
    )

pub put-requires : goal.put-requires
put-requires g c =
    let s = c.args.search.now in
    omega (arith, slice_get_within s.tree_nodes.items c.args.place c.requires.waiting.0 c.requires.waiting.1, s.tree_nodes.ok.0)

pub returns-clause-under_way : goal.returns-clause-under_way
returns-clause-under_way g c =
    let p = g.P.Path.problem c.args.path.now in
    let s = c.args.search.now in
    let root = c.args.root.now in
    let read = c.index.result.now in
    let put : TreeNode = record {
      mark = c.in_ok-mark.field-0.mark;
      link = read.link;
      key = c.in_ok-mark.field-0.key;
      rises = c.in_ok-rises.rises;
    } in
    let there = c.in_ok-go_to.ensures.there ∙ ap (λ (l : List Link). path_at root l read.link) c.as_slice.ensures.value in
    let made = opening_there p (g.P.Path.problem c.go_to.new.path) root (g.P.Path.facts c.go_to.new.path) s.best c.open.new.best
    s.links.items s.tree_nodes.items c.put.new.tree_nodes.items c.args.place read put
    c.in_ok-go_to.ensures.unchanged there c.index.ensures c.requires.waiting c.requires.under_way.grown c.in_ok-mark.ensures.better
    c.in_ok-mark.ensures.known c.in_ok-mark.ensures.opened c.in_ok-mark.ensures.single refl c.put.ensures in
    let fits = c.in_ok-mark.ensures.better.fits root c.in_ok-go_to.ensures.rooted
    (subst (λ (q : Problem). FitsRoot q root s.best) (sym c.in_ok-go_to.ensures.unchanged) c.requires.under_way.fits) in
    record {
      kept = subst (λ (q : Problem). IsBestSoFar q c.open.new.best) c.in_ok-go_to.ensures.unchanged c.in_ok-mark.ensures.better.kept;
      fits = subst (λ (q : Problem). FitsRoot q root c.open.new.best) c.in_ok-go_to.ensures.unchanged fits;
      links = c.requires.under_way.links;
      grown = made.grown;
    }

pub returns-clause-better : goal.returns-clause-better
returns-clause-better g c =
    let root = c.args.root.now in
    let old = c.args.search.now.best in
    let new = c.open.new.best in
    subst (λ (q : Problem). Advances q root old new) c.in_ok-go_to.ensures.unchanged
    (advance_above (g.P.Path.problem c.go_to.new.path) root (g.P.Path.facts c.go_to.new.path) old new c.in_ok-go_to.ensures.rooted
    c.in_ok-mark.ensures.better)

pub returns-clause-opened : goal.returns-clause-opened
returns-clause-opened g c =
    let p = g.P.Path.problem c.args.path.now in
    let s = c.args.search.now in
    let root = c.args.root.now in
    let read = c.index.result.now in
    let put : TreeNode = record {
      mark = c.in_ok-mark.field-0.mark;
      link = read.link;
      key = c.in_ok-mark.field-0.key;
      rises = c.in_ok-rises.rises;
    } in
    let there = c.in_ok-go_to.ensures.there ∙ ap (λ (l : List Link). path_at root l read.link) c.as_slice.ensures.value in
    let made = opening_there p (g.P.Path.problem c.go_to.new.path) root (g.P.Path.facts c.go_to.new.path) s.best c.open.new.best
    s.links.items s.tree_nodes.items c.put.new.tree_nodes.items c.args.place read put
    c.in_ok-go_to.ensures.unchanged there c.index.ensures c.requires.waiting c.requires.under_way.grown c.in_ok-mark.ensures.better
    c.in_ok-mark.ensures.known c.in_ok-mark.ensures.opened c.in_ok-mark.ensures.single refl c.put.ensures in
    made.opened

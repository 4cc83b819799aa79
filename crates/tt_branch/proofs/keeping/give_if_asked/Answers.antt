use Rattle.std.proofs.Common.{List, refl, sym, subst, arith}
use Rattle.std.specs.Prelude.{All}
use Rattle.tt_instance.specs.Limits.{IsInstance}
use Rattle.tt_branch.specs.declared.links.Link.{Link}
use Rattle.tt_branch.specs.Inner.BestSoFar.{table_of}
use Rattle.tt_branch.specs.Inner.Links.{AreLinks}
use Rattle.tt_branch.specs.Inner.Written.{IsWritable}
use Rattle.tt_branch.proofs.Concluding.{writable}
use Rattle.tt_branch.proofs.keeping.give_if_asked.Goals as goal

pub write_nodes-requires : goal.write_nodes-requires
write_nodes-requires g c = λ κs.
    let p = g.P.Path.problem c.args.path.now in
    let root = c.args.root.now in
    let s = c.args.search.now in
    let ok = subst IsInstance c.instance.ensures c.days.ensures.instance in
    let links = sym c.as_slice.ensures.value in
    let each = writable p ok root (table_of s.best) s.links.items s.tree_nodes.items c.requires.under_way.grown (omega arith) in (
      (refl, tt),
      (
        c.requires.rooted,
        (
          subst AreLinks links c.requires.under_way.links,
          subst (All (IsWritable p root c.as_slice.result.now)) (sym c.as_slice-2.ensures.value)
              (subst (λ (l : List Link). All (IsWritable p root l) s.tree_nodes.items) links each),
        ),
      ),
    )

use Rattle.std.proofs.Common.{refl}
use Rattle.tt_branch.specs.declared.tree_node.NodeState.TheVariants.{Split}
use Rattle.tt_branch.proofs.Dividing.{split_by_steps}
use Rattle.tt_branch.proofs.search.split.Goals as goal

pub returns : goal.returns
returns c = split_by_steps c.args.place c.args.pattern _ _ c.requires (record {
  read = c.index.result.now;
  read_is = c.index.ensures;
  one = c.push_link.new.links.items;
  yes = c.in_ok-yes.yes;
  no = c.in_ok-no.no;
  first_link = c.in_ok-yes.ensures.links;
  yes_is = c.in_ok-yes.ensures.place;
  second_link = c.in_ok-no.ensures.links;
  no_is = c.in_ok-no.ensures.place;
  a = c.waiting-first.result;
  b = c.waiting-second.result;
  a_mark = c.waiting-first.ensures.mark;
  a_link = c.waiting-first.ensures.link;
  b_mark = c.waiting-second.ensures.mark;
  b_link = c.waiting-second.ensures.link;
  d = record {
    mark = Split c.args.pattern;
    link = c.index.result.now.link;
    key = c.index.result.now.key;
    rises = c.index.result.now.rises;
  };
  d_mark = refl;
  d_link = refl;
  more = c.insert.new.self.items;
  most = c.insert-2.new.self.items;
  put_b = c.in_ok-insert.ensures.items;
  put_a = c.in_ok-insert-2.ensures.items;
  put_d = c.put.ensures;
  best = refl;
})

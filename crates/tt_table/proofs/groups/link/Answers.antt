use Rattle.std.proofs.Common.{◌≡◌, ◌+◌, ◌-◌, ◌<◌, length, get_or, set, replicate, ◌∙◌, refl, sym, subst, arith}
use Rattle.std.proofs.lemmas.List.{length-set}
use Rattle.tt_table.specs.Groups.{nobody, NamesNext, NamesFirst}
use Rattle.tt_table.proofs.Grouping.{begins_nowhere, named_nowhere, begins_more, named_more}
use Rattle.tt_table.proofs.groups.link.Goals as goal

pub loop-behind-init : goal.loop-behind-init
loop-behind-init c = record {
  groups = refl;
  room = refl;
  begins = begins_nowhere c.args.by c.args.entries.now (length c.args.entries.now - 0) (omega arith);
  named = named_nowhere c.args.by c.args.entries.now (replicate 16384 (length c.args.entries.now)) (length c.args.entries.now - 0)
      (omega arith);
}

pub loop-behind-preserved : goal.loop-behind-preserved
loop-behind-preserved c =
    let t = c.args.entries.now in
    let i = length t - 1 - c.loop-behind.behind in
    let before : length t - c.loop-behind.behind ≡ i + 1 = omega (arith, c.loop-behind-test.true) in
    let after : length t - (c.loop-behind.behind + 1) ≡ i = omega arith in
    let first = c.loop-behind.links.first in
    let next = c.loop-behind.links.next in
    let g = c.group_of-group.result in
    let own = sym c.group_of-group.ensures in
    let within : i < length t = omega (arith, c.loop-behind-test.true) in
    let small : g < 2048 = subst (λ k. k < 2048) own (c.requires.inside i nobody within) in
    let begins : NamesFirst c.args.by t first (i + 1) = subst (NamesFirst c.args.by t first) before c.loop-behind.invariant.begins in
    let named : NamesNext c.args.by t next (i + 1) = subst (NamesNext c.args.by t next) before c.loop-behind.invariant.named in
    record {
      groups = length-set first g i ∙ c.loop-behind.invariant.groups;
      room = length-set next i (get_or first g 0) ∙ c.loop-behind.invariant.room;
      begins = subst (NamesFirst c.args.by t (set first g i)) (sym after)
          (begins_more c.args.by t g i own within first (omega (arith, small, c.loop-behind.invariant.groups)) begins);
      named = subst (NamesNext c.args.by t (set next i (get_or first g 0))) (sym after)
          (named_more c.args.by t g i own within first next small
          (omega (arith, within, c.requires.at_most, c.loop-behind.invariant.room)) begins named);
    }

use Rattle.std.proofs.Common.{◌≡◌, take}
use Rattle.tt_wishes.specs.Facts.{facts_of_all}
use Rattle.tt_wishes.specs.declared.format.TheConstants.{MAX_ROOT}
use Rattle.tt_wishes.proofs.facts.list_root.Given as goal

abbrev pub invariant-loop-wish : goal.invariant-loop-wish
invariant-loop-wish l = take MAX_ROOT l.facts.items ≡ take MAX_ROOT (facts_of_all l.instance (take l.wish-index l.wishes))

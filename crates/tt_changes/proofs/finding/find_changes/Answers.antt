use Rattle.std.proofs.Common.{◌≡◌, refl, rules}
use Rattle.tt_changes.specs.declared.likeness.Likeness.TheVariants.{Place, Period, Course}
use Rattle.tt_changes.proofs.Found.{found_changes}
use Rattle.tt_changes.proofs.Pairs.{paired_of}
use Rattle.tt_changes.proofs.finding.find_changes.Goals as goal

pub returns : goal.returns
returns c p old_ok new_ok =
    let left = c.in_ok-left.field-0 in
    let rooms = c.in_ok-rooms.field-0 in
    let moved = c.in_ok-moved.field-0 in
    let all : c.in_ok-all.all.items ≡ c.args.newer.now = search rules in
    let kept : c.deref.result.now ≡ left.older.items = search rules in
    let kept_rooms : c.deref-2.result.now ≡ rooms.older.items = search rules in
    let first = paired_of Place c.args.older.now c.args.newer.now c.entries-2.result.now c.in_ok-all.all.items left.pairs.items
    left.older.items
    left.newer.items c.entries-2.ensures.value all c.in_ok-left.ensures in
    let second = paired_of Period left.older.items left.newer.items c.deref.result.now left.newer.items rooms.pairs.items rooms.older.items
    rooms.newer.items kept refl c.in_ok-rooms.ensures in
    let third = paired_of Course rooms.older.items rooms.newer.items c.deref-2.result.now rooms.newer.items moved.pairs.items
    moved.older.items moved.newer.items kept_rooms refl c.in_ok-moved.ensures in
    found_changes p c.args.older.now c.args.newer.now left.pairs.items left.older.items left.newer.items rooms.older.items rooms.newer.items
    (record { moved = moved.pairs; rooms = rooms.pairs; gone = moved.older; added = moved.newer })
    first second third old_ok new_ok

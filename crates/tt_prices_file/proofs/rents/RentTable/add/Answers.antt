use Rattle.std.proofs.Common.{◌+◌, ◌-◌, ◌*◌, ◌≤◌, length, refl, sym, ap, subst, ◌∙◌, arith}
use Rattle.std.proofs.Math.Seq.{paste}
use Rattle.std.proofs.lemmas.List.{with_items_is}
use Rattle.std.proofs.lemmas.List.Edits.{length-paste}
use Rattle.std.proofs.lemmas.Slice.{put_mid-paste}
use Rattle.tt_list_laws.specs.Words.{has_number}
use Rattle.tt_prices_text.specs.Parts.{rents_of}
use Rattle.tt_prices_file.proofs.Rented.{rents_fit, rented_more}
use Rattle.tt_prices_file.proofs.rents.RentTable.add.Goals as goal

pub returns-clause-table : goal.returns-clause-table
returns-clause-table c = λ xs table.
    let p = c.args.instance.now in
    let x = rents_of c.args.rent.now in
    let old = c.args.self.now in
    let none = ap (λ l. has_number l x.room) (sym table.rooms) ∙ c.requires.new in
    let few = subst (λ n. length x.rents ≤ n) (sym table.slots) c.requires.room.1.few in
    let fits = rents_fit p xs x old table c.requires.room.0 few c.requires.room.1.each none in
    let start = x.room * old.slots in
    let whole = put_mid-paste start (start + c.len.result - start) c.deref_mut.result.now c.copy_from_slice.new.self x.rents
    (length x.rents)
    (c.copy_from_slice.ensures.after ∙ c.deref.ensures.value) (omega (arith, c.len.ensures)) refl in
    let rents = c.deref_mut.ensures.value in
    let here = subst (λ l. start + length x.rents ≤ length l) (sym rents) fits in
    let long = ap length whole ∙ length-paste c.deref_mut.result.now start x.rents (length x.rents) here (omega arith) ∙
    c.deref_mut.ensures.len in
    rented_more p xs x old table c.requires.room.0 few c.requires.room.1.each none _ refl
    (with_items_is old.prices.rents _ long ∙ whole ∙ ap (λ l. paste l start x.rents (length x.rents)) rents) c.in_ok-push.ensures.items

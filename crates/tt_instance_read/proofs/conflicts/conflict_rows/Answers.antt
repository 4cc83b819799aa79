use Rattle.std.proofs.Common.{◌∙◌, sym, subst}
use Rattle.tt_instance.specs.Inner.Indexed.{IsSquare}
use Rattle.tt_instance_read.proofs.Excluding.{teacher_rows_square, row_for_each, members_have_rows, rows_reported}
use Rattle.tt_instance_read.proofs.conflicts.conflict_rows.Goals as goal

pub add_curricula-requires-clause-square : goal.add_curricula-requires-clause-square
add_curricula-requires-clause-square c =
    subst IsSquare (sym c.in_ok-rows.ensures) (teacher_rows_square c.deref.result.now)

pub add_curricula-requires-clause-within : goal.add_curricula-requires-clause-within
add_curricula-requires-clause-within c =
    members_have_rows c.args.parts.now c.deref.result.now c.deref-2.result.now c.in_ok-rows.rows.items
    c.requires c.deref.ensures.value c.deref-2.ensures.value c.in_ok-rows.ensures

pub returns : goal.returns
returns c = record {
  len = c.clear_own.ensures.len ∙ c.add_curricula.ensures.len
      ∙ row_for_each c.args.parts.now c.deref.result.now c.in_ok-rows.rows.items c.deref.ensures.value c.in_ok-rows.ensures;
  square = c.clear_own.ensures.square;
  agrees = rows_reported c.args.parts.now c.deref.result.now c.deref-2.result.now c.in_ok-rows.rows.items c.add_curricula.new.rows.items
      c.clear_own.new.rows.items
      c.requires c.deref.ensures.value c.deref-2.ensures.value c.in_ok-rows.ensures c.add_curricula.ensures.marked
      c.clear_own.ensures.marked;
}

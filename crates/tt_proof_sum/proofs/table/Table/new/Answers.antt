use Rattle.std.proofs.Common.{◌≡◌, ℕ, List, refl, sym, subst}
use Rattle.std.specs.Prelude.{slice_index_or}
use Rattle.tt_proof_sum.proofs.Tables.{free}
use Rattle.tt_proof_sum.proofs.table.Table.new.Goals as goal

pub returns : goal.returns
returns c = record {
  owners = λ k l. subst (λ (xs : List ℕ). slice_index_or xs k 0 ≡ 0) (sym (c.in_ok-vec.ensures.items_if_clones_equal (λ y e. e)))
      (free 0 32768 k);
  number = refl;
  free = refl;
}

use Rattle.std.proofs.Common.{◌≡◌, ℕ, ◌<◌, Bool, true}
use Rattle.std.specs.Prelude.{slice_index_or}
use Rattle.tt_instance.specs.declared.cell.Cell.{Cell}
use Rattle.tt_moves_chain.specs.Chains.{linked, IsClosed}
use Rattle.tt_moves_chain.specs.Marks.{marked, IsMarking}
use Rattle.tt_moves_chain.proofs.spreading.reach.Given as goal

abbrev pub invariant-loop-j : goal.invariant-loop-j
invariant-loop-j l = record {
  marking : IsMarking l.initial.flags.items l.initial.waiting.items l.flags.items l.waiting.items;
  reached : (k : ℕ) (d : Cell) → k < l.j → linked l.instance l.pair.from l.pair.to l.x (slice_index_or l.entries k d) ≡ true
      → marked l.flags.items k ≡ true;
  sound : (m : ℕ → Bool) → IsClosed l.instance l.entries l.pair.from l.pair.to m → m l.place ≡ true
      → ((i : ℕ) → marked l.initial.flags.items i ≡ true → m i ≡ true) → (i : ℕ) → marked l.flags.items i ≡ true → m i ≡ true;
}

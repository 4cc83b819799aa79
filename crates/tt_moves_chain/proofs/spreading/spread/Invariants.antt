use Rattle.std.proofs.Common.{◌≡◌, ℕ, ◌+◌, ◌-◌, ◌*◌, ◌<◌, Bool, true, length}
use Rattle.std.specs.Prelude.{◌⊎◌, slice_index_or, Contains}
use Rattle.tt_instance.specs.declared.cell.Cell.{Cell}
use Rattle.tt_moves_chain.specs.Chains.{linked, IsClosed}
use Rattle.tt_moves_chain.specs.Marks.{marked, marks}
use Rattle.tt_moves_chain.proofs.spreading.spread.Given as goal

abbrev pub decreases-loop-place : goal.decreases-loop-place
decreases-loop-place l = 2 * (length l.entries - marks l.flags.items) + length l.waiting.items

abbrev pub invariant-loop-place : goal.invariant-loop-place
invariant-loop-place l = record {
  size : length l.flags.items ≡ length l.entries;
  starts : marked l.flags.items l.entry ≡ true;
  inside : (i : ℕ) → Contains l.waiting.items i → marked l.flags.items i ≡ true;
  followed : (i : ℕ) → marked l.flags.items i ≡ true → Contains l.waiting.items i ⊎
      ((j : ℕ) (d : Cell) → j < length l.entries → linked l.instance l.pair.from l.pair.to (slice_index_or l.entries i d)
      (slice_index_or l.entries j d) ≡ true → marked l.flags.items j ≡ true);
  sound : (m : ℕ → Bool) → IsClosed l.instance l.entries l.pair.from l.pair.to m → m l.entry ≡ true → (i : ℕ)
      → marked l.flags.items i ≡ true → m i ≡ true;
}

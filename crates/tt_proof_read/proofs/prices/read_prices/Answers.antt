use Rattle.std.proofs.Common.{◌≡◌, [], refl, sym, ap, subst, arith, ◌∙◌}
use Rattle.std.proofs.lemmas.Result.{err_from_is_err_and}
use Rattle.tt_proof_read.specs.Inner.Listed.{Listed}
use Rattle.tt_proof_read.specs.Inner.Pricing.{price_lists_of, seen_of, with_seen, IsUnseen}
use Rattle.tt_proof_read.specs.Reading.{seen_in}
use Rattle.tt_proof_read.proofs.PriceTurns.{prices_left, kept_nothing, kept_push, seen_push, pair_kept}
use Rattle.tt_proof_read.proofs.Progress.{pair_takes}
use Rattle.tt_proof_read.proofs.Underway.{underway_first, underway_then, underway_end, underway_fails}
use Rattle.tt_proof_read.proofs.prices.read_prices.Goals as goal

pub loop-prices-init : goal.loop-prices-init
loop-prices-init g c =
    let none : price_lists_of (record { courses = c.new.result; rooms = c.new-2.result }) ≡ ([], []) =
    rw (c.new.ensures.items, c.new-2.ensures.items) refl in
    let clear : seen_of (record { courses = c.clear.new.self; rooms = c.clear-2.new.self }) ≡ ([], []) =
    rw (c.clear.ensures, c.clear-2.ensures) refl in
    record {
      read = underway_first _ _ _ _ _ (λ s. prices_left c.args.sizes _ s none);
      forward = omega arith;
      tables = record {
        courses = ap (λ (l : Listed). l.count) c.clear.ensures ∙ c.requires.courses;
        rooms = ap (λ (l : Listed). l.count) c.clear-2.ensures ∙ c.requires.rooms;
      };
      seen = clear ∙ sym (ap seen_in none);
      within = kept_nothing c.args.sizes _ none;
    }

pub returns-in_err-priced-clause-read : goal.returns-in_err-priced-clause-read
returns-in_err-priced-clause-read g c =
    let p = err_from_is_err_and c.from_residual.result c.from_residual.ensures.1 in
    rw (p.1, p.2)
    (underway_fails _ _ _ price_lists_of c.in_err-priced.field-0.0 _ _ _ _ c.loop-prices.invariant.read
    (pair_kept c.args.sizes _ _ _ _ _ c.loop-prices.invariant.seen c.in_err-priced.ensures.read))

pub loop-prices-preserved : goal.loop-prices-preserved
loop-prices-preserved g c =
    let next = rw c.in-Some.is at c.in_ok-priced.ensures.within in
    let new = subst (λ listed. IsUnseen c.args.sizes listed c.in-Some.priced) c.loop-prices.invariant.seen next.0 in
    let added = c.in_ok-add.ensures.added in
    record {
      read = rw added
          (underway_then _ _ _ (pair_takes c.args.sizes) _ _ _ _ c.in_ok-priced.field-0
          (c.in-Some.priced, c.in-Some.points) c.in-Some.is c.loop-prices.invariant.read
          (pair_kept c.args.sizes _ _ _ _ _ c.loop-prices.invariant.seen c.in_ok-priced.ensures.read));
      forward = omega (arith, c.in_ok-priced.ensures.forward, c.loop-prices.invariant.forward);
      tables = record {
        courses = c.in_ok-add.ensures.courses ∙ c.loop-prices.invariant.tables.courses;
        rooms = c.in_ok-add.ensures.rooms ∙ c.loop-prices.invariant.tables.rooms;
      };
      seen = c.in_ok-add.ensures.seen ∙ ap (λ listed. with_seen listed c.in-Some.priced) c.loop-prices.invariant.seen
          ∙ seen_push (price_lists_of c.loop-prices.prices) c.in-Some.priced c.in-Some.points ∙ sym (ap seen_in added);
      within = rw added (kept_push c.args.sizes _ c.in-Some.priced c.in-Some.points c.loop-prices.invariant.within new next.1);
    }

pub returns-clause-read : goal.returns-clause-read
returns-clause-read g c =
    underway_end _ _ _ price_lists_of c.loop-prices.prices _ _ _ _ c.in_ok-priced.field-0 refl c.in_default.is
    c.loop-prices.invariant.read (pair_kept c.args.sizes _ _ _ _ _ c.loop-prices.invariant.seen c.in_ok-priced.ensures.read)

use Rattle.std.proofs.Common.{[], ◌∷◌, ◌++◌, refl, subst}
use Rattle.std.proofs.lemmas.Result.{err_from_is_err_and}
use Rattle.tt_instance.specs.Limits.{IsInstance}
use Rattle.tt_text.proofs.Stops.{OnFault-weaker, passed_reads}
use Rattle.tt_proof_sum.specs.declared.fault.FileFault.TheVariants.{TooLarge}
use Rattle.tt_proof_sum.proofs.Added.{adds, small_points, too_large, only_unfinished}
use Rattle.tt_proof_sum.proofs.summed.Sum.add.Goals as goal

pub returns-in_err-bound-clause-only : goal.returns-in_err-bound-clause-only
returns-in_err-bound-clause-only g c =
    let e = err_from_is_err_and c.from_residual.result c.from_residual.ensures.1 in
    λ parts bytes part of known is apart within.
    rw (e.1, e.2)
    (OnFault-weaker c.in_err-bound.field-0.0 _ _
    (λ f explains. only_unfinished c.args.self.checker c.args.root.now (subst IsInstance c.instance.ensures c.days.ensures.instance)
    parts bytes part is apart (small_points (parts ++ part ∷ []) within) f
    (explains parts bytes of.table known)) c.in_err-bound.ensures.fault)

pub returns-in_err-bound-clause-fault : goal.returns-in_err-bound-clause-fault
returns-in_err-bound-clause-fault g c =
    let e = err_from_is_err_and c.from_residual.result c.from_residual.ensures.1 in
    rw (e.1, e.2) (OnFault-weaker c.in_err-bound.field-0.0 _ _ (λ f explains parts bytes of known. explains parts bytes of.table known)
    c.in_err-bound.ensures.fault)

pub returns-in-Some-clause-added : goal.returns-in-Some-clause-added
returns-in-Some-clause-added g c =
    λ parts of.
    adds c.args.self.checker c.args.root.now (g.R.Source.remaining c.args.source.now) c.args.self parts
    c.take_file.new.checker c.take_file.new.table c.in_ok-bound.bound c.in-Some.total of (c.in_ok-bound.ensures.joins parts of.table)
    c.in-Some.ensures.0 c.in-Some.ensures.1

pub returns-clause-only : goal.returns-clause-only
returns-clause-only g c =
    λ parts bytes part of known is apart within.
    let large = too_large c.args.self.checker c.args.root.now (g.R.Source.remaining c.args.source.now) c.args.self parts
    c.take_file.new.table c.in_ok-bound.bound of (c.in_ok-bound.ensures.joins parts of.table) c.in-None.ensures bytes known in
    only_unfinished c.args.self.checker c.args.root.now (subst IsInstance c.instance.ensures c.days.ensures.instance)
    parts bytes part is apart (small_points (parts ++ part ∷ []) within) TooLarge large

pub returns-clause-fault : goal.returns-clause-fault
returns-clause-fault g c =
    λ parts bytes of known.
    too_large c.args.self.checker c.args.root.now (g.R.Source.remaining c.args.source.now) c.args.self parts
    c.take_file.new.table c.in_ok-bound.bound of (c.in_ok-bound.ensures.joins parts of.table) c.in-None.ensures bytes known

pub returns-in_err-bound-clause-failed : goal.returns-in_err-bound-clause-failed
returns-in_err-bound-clause-failed g c =
    passed_reads c.from_residual.result c.in_err-bound.field-0.0 _ _ _ c.from_residual.ensures.1 c.in_err-bound.ensures.failed refl

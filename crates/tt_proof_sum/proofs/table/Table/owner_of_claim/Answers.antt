use Rattle.std.proofs.Common.{◌≡◌, ℕ, ◌+◌, ◌*◌, List, None, map, sym, subst}
use Rattle.tt_proof_sum.specs.Inner.Owned.{FirstOwned}
use Rattle.tt_proof_sum.specs.Tables.{first_owner}
use Rattle.tt_proof_sum.proofs.OwnersOfPrices.{curriculum_owned, course_owned, none_but_rooms, no_rooms_owned, rooms_owned}
use Rattle.tt_proof_sum.proofs.table.Table.owner_of_claim.Goals as goal

pub returns-in-Some-clause-some : goal.returns-in-Some-clause-some
returns-in-Some-clause-some c =
    let found = c.in-Some.found in
    curriculum_owned c.args.self.now c.args.courses c.args.claim.now found.number found.owner
    (subst (λ (l : List ℕ). FirstOwned c.args.self.now 2 l found.number found.owner) c.deref.ensures.value c.in-Some.ensures.some)

pub returns-in-Some-first_owned-clause-some : goal.returns-in-Some-first_owned-clause-some
returns-in-Some-first_owned-clause-some c =
    let a = c.args.self.now in
    let found = c.in-Some-first_owned.found in
    course_owned a c.args.courses c.args.claim.now
    (subst (λ (l : List ℕ). first_owner a (map (λ (n : ℕ). 4 * n + 2) l) ≡ None) c.deref.ensures.value c.in_default.ensures.none)
    found.number found.owner
    (subst (λ (l : List ℕ). FirstOwned a 1 l found.number found.owner) c.deref-2.ensures.value c.in-Some-first_owned.ensures.some)

pub returns-then-not-claim-clause-none : goal.returns-then-not-claim-clause-none
returns-then-not-claim-clause-none c =
    let a = c.args.self.now in
    none_but_rooms a c.args.courses c.args.claim.now
    (subst (λ (l : List ℕ). first_owner a (map (λ (n : ℕ). 4 * n + 2) l) ≡ None) c.deref.ensures.value c.in_default.ensures.none)
    (subst (λ (l : List ℕ). first_owner a (map (λ (n : ℕ). 4 * n + 1) l) ≡ None) c.deref-2.ensures.value
    c.in_default-first_owned.ensures.none)
    c.if-not-claim.true

pub returns-in_err-owner-clause-none : goal.returns-in_err-owner-clause-none
returns-in_err-owner-clause-none c =
    let a = c.args.self.now in
    rw c.from_residual.ensures (no_rooms_owned a c.args.courses c.args.claim.now
    (subst (λ (l : List ℕ). first_owner a (map (λ (n : ℕ). 4 * n + 2) l) ≡ None) c.deref.ensures.value c.in_default.ensures.none)
    (subst (λ (l : List ℕ). first_owner a (map (λ (n : ℕ). 4 * n + 1) l) ≡ None) c.deref-2.ensures.value
    c.in_default-first_owned.ensures.none)
    c.first_owner_of_rooms-capacity.result c.first_owner_of_rooms.result c.first_owner_of_rooms-capacity.ensures
    c.first_owner_of_rooms.ensures c.if-not-claim.false (sym c.in_err-owner.ensures))

pub returns-clause-some : goal.returns-clause-some
returns-clause-some c =
    let a = c.args.self.now in
    rooms_owned a c.args.courses c.args.claim.now
    (subst (λ (l : List ℕ). first_owner a (map (λ (n : ℕ). 4 * n + 2) l) ≡ None) c.deref.ensures.value c.in_default.ensures.none)
    (subst (λ (l : List ℕ). first_owner a (map (λ (n : ℕ). 4 * n + 1) l) ≡ None) c.deref-2.ensures.value
    c.in_default-first_owned.ensures.none)
    c.first_owner_of_rooms-capacity.result c.first_owner_of_rooms.result c.first_owner_of_rooms-capacity.ensures
    c.first_owner_of_rooms.ensures c.if-not-claim.false c.in_ok-owner.owner (sym c.in_ok-owner.ensures)

use Rattle.std.proofs.Common.{ℕ, ◌+◌, ◌*◌, List, map, Option, sym, ap, ◌∙◌}
use Rattle.std.specs.Option.{option_or}
use Rattle.tt_proof_sum.specs.Tables.{first_owner}
use Rattle.tt_proof_sum.proofs.Owners.{group_owner}
use Rattle.tt_proof_sum.proofs.table.Table.owner_of_group.Goals as goal

pub returns-in-Some : goal.returns-in-Some
returns-in-Some c =
    let a = c.args.self.now in
    let g = c.args.group.now in
    let first = sym c.in-Some.is ∙ c.first_owner.ensures
    ∙ ap (λ (l : List ℕ). first_owner a (map (λ (n : ℕ). 4 * n + 2) l)) c.curricula.ensures in
    ap (λ (o : Option ℕ). option_or o (first_owner a (map (λ (n : ℕ). 4 * n + 1) g.courses))) first ∙ group_owner a g

pub returns-in-None : goal.returns-in-None
returns-in-None c =
    let a = c.args.self.now in
    let g = c.args.group.now in
    let first = sym c.in-None.is ∙ c.first_owner.ensures
    ∙ ap (λ (l : List ℕ). first_owner a (map (λ (n : ℕ). 4 * n + 2) l)) c.curricula.ensures in
    c.first_owner-in-None.ensures ∙ ap (λ (l : List ℕ). first_owner a (map (λ (n : ℕ). 4 * n + 1) l)) c.courses.ensures
    ∙ ap (λ (o : Option ℕ). option_or o (first_owner a (map (λ (n : ℕ). 4 * n + 1) g.courses))) first ∙ group_owner a g

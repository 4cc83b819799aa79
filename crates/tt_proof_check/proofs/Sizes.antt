-- The sizes of an instance.
use Rattle.std.proofs.Common.{◌≡◌, ℕ, length, refl, ap, ◌∙◌}
use Rattle.tt_instance.specs.Problem.{Problem}
use Rattle.tt_proof_read.specs.Sizes.{AreSizes}
use Rattle.tt_proof_read.specs.declared.sizes.Sizes.{Sizes}
use Rattle.tt_proof_check.specs.Streams.{sizes_of}

abbrev make_sizes : ℕ → ℕ → ℕ → ℕ → ℕ → Sizes
make_sizes courses curricula rooms days periods = record {
  courses = courses;
  curricula = curricula;
  rooms = rooms;
  days = days;
  periods = periods;
}

pub sizes_are : (p : Problem) (sizes : Sizes) → AreSizes p sizes → sizes ≡ sizes_of p
sizes_are p sizes a =
    ap (λ n. make_sizes n sizes.curricula sizes.rooms sizes.days sizes.periods) a.courses
    ∙ ap (λ n. make_sizes (length p.courses) n sizes.rooms sizes.days sizes.periods) a.curricula
    ∙ ap (λ n. make_sizes (length p.courses) (length p.curricula) n sizes.days sizes.periods) a.rooms
    ∙ ap (λ n. make_sizes (length p.courses) (length p.curricula) (length p.rooms) n sizes.periods) a.days
    ∙ ap (λ n. make_sizes (length p.courses) (length p.curricula) (length p.rooms) p.days n) a.periods

pub are_sizes_of : (p : Problem) → AreSizes p (sizes_of p)
are_sizes_of p = record { courses = refl; curricula = refl; rooms = refl; days = refl; periods = refl }

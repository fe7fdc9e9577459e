use Rattle.std.proofs.Common.{◌≡◌, ◌≤◌, ◌∙◌, length, ap, sym, subst}
use Rattle.lpis_checker.proofs.Common.{triangles_of}
use Rattle.lpis_points.specs.Triangles.{most_triangles}
use Rattle.lpis_checker.proofs.SiteLemmas.{few_triangles}
use Rattle.lpis_checker.proofs.first_fault.pair_fault.Goals as goal

pub pairs-requires : goal.pairs-requires
pairs-requires g c =
    let cert = c.args.cert.now in
    let all : c.as_slice.result.now ≡ triangles_of cert.pieces = c.as_slice.ensures.value ∙ c.in_ok-triangles.ensures in
    subst (λ n. n ≤ most_triangles) (sym (ap length all)) (few_triangles cert)

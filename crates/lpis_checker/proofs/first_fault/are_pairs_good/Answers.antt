use Rattle.std.proofs.Common.{◌≡◌, ◌≤◌, ◌∙◌, Bor, length, ap, sym, subst, arith}
use Rattle.std.proofs.lemmas.List.{length-map}
use Rattle.lpis_checker.proofs.Common.{Triangle, triangles_of}
use Rattle.lpis_points.specs.Triangles.{most_triangles}
use Rattle.lpis_pairs.specs.NearPairs.{seen}
use Rattle.lpis_checker.specs.private.Searches.{part_searches}
use Rattle.lpis_checker.specs.private.Naming.{AreAsMany}
use Rattle.lpis_checker.proofs.SiteLemmas.{few_triangles}
use Rattle.lpis_checker.proofs.TurnedLemmas.{all_turned}
use Rattle.lpis_checker.proofs.NamingLemmas.{all_hold}
use Rattle.lpis_checker.proofs.first_fault.are_pairs_good.Goals as goal

pub are_lines_good-requires : goal.are_lines_good-requires
are_lines_good-requires g c =
    let numbered : seen c.as_slice.result.now ≡ triangles_of c.args.cert.now.pieces = ap seen c.as_slice.ensures.value ∙ c.in_ok-triangles.ensures in
    all_turned c.args.release.now c.args.cert.now (seen c.as_slice.result.now) part_searches numbered (omega arith) c.requires

pub are_as_many-requires : goal.are_as_many-requires
are_as_many-requires g c =
    let xs = c.as_slice-2.result.now in
    let numbered : seen xs ≡ triangles_of c.args.cert.now.pieces = ap seen c.as_slice-2.ensures.value ∙ c.in_ok-triangles.ensures in
    subst (λ n. n ≤ most_triangles) (ap length (sym numbered) ∙ length-map xs (λ (t : Bor Triangle). t.now)) (few_triangles c.args.cert.now)

pub returns : goal.returns
returns g c = λ told.
    let ts = seen c.as_slice.result.now in
    let numbered : ts ≡ triangles_of c.args.cert.now.pieces = ap seen c.as_slice.ensures.value ∙ c.in_ok-triangles.ensures in
    let same : seen c.as_slice-2.result.now ≡ ts = ap seen (c.as_slice-2.ensures.value ∙ sym c.as_slice.ensures.value) in
    all_hold c.args.release.now c.args.cert.now ts numbered c.requires (c.are_lines_good.ensures c.if-not-are_lines_good.false)
    (subst (AreAsMany c.args.cert.now) same (c.in_ok-as_many.ensures told))

use Rattle.std.proofs.Common.{ℕ, [], map}
use Rattle.std.proofs.lemmas.List.Elements.{All-nil}
use Rattle.lpis_pairs.specs.NearPairs.{IsNear}
use Rattle.lpis_pairs.proofs.FoundLemmas.{has_near_pairs}
use Rattle.lpis_pairs.proofs.sweep.sweep_boxes.Goals as goal

pub returns-then-is_done : goal.returns-then-is_done
returns-then-is_done g c = λ start.
    let ts = map g.T.HasTriangle.triangle c.args.triangles.now in
    let x = c.in_ok-is_done.ensures c.if-is_done.true [] start in
    (x.0, x.1, has_near_pairs ts x.0 (x.2.near (All-nil (λ (p : ℕ × ℕ). IsNear ts p.0 p.1))) x.3)

pub returns : goal.returns
returns g c = λ start.
    let ts = map g.T.HasTriangle.triangle c.args.triangles.now in
    let x = c.in_ok-sweep_levels.ensures [] c.clear.ensures in
    (x.0, x.1, has_near_pairs ts x.0 (x.2.near (All-nil (λ (p : ℕ × ℕ). IsNear ts p.0 p.1))) x.3)

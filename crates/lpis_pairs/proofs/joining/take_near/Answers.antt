use Rattle.std.proofs.Common.{◌≡◌, ℕ, ◌<◌, Bool, true, false, ◌++◌, ◌∷◌, [], arith, map}
use Rattle.std.proofs.lemmas.List.Elements.{Contains-push}
use Rattle.lpis_pairs.proofs.JoinedLemmas.{grows_by, grows_by_nothing}
use Rattle.lpis_pairs.proofs.joining.take_near.Goals as goal

clash : (b : Bool) → b ≡ false → b ≡ true → ⊥
clash b e f = cc

both : (i j : ℕ) → i < j → j < i → ⊥
both i j l m = omega arith

pub returns-in_ok-take : goal.returns-in_ok-take
returns-in_ok-take g c =
    let ts = map g.T.HasTriangle.triangle c.args.triangles.now in
    let i = c.args.i in
    let j = c.args.j in
    let near = c.is_near_by_extents.ensures.0 c.if-is_near_by_extents.true in
    λ ps h. (
      ps ++ (i, j) ∷ [],
      c.in_ok-take.ensures ps h,
      grows_by ts ps (i, j) near,
      (λ n. Contains-push ps (i, j), λ n. absurd (both i j near.rising n.rising)),
    )

pub returns-in_ok-take-2 : goal.returns-in_ok-take-2
returns-in_ok-take-2 g c =
    let ts = map g.T.HasTriangle.triangle c.args.triangles.now in
    let i = c.args.i in
    let j = c.args.j in
    let near = c.is_near_by_extents-else-is_near_by_extents.ensures.0 c.if-is_near_by_extents-2.true in
    λ ps h. (
      ps ++ (j, i) ∷ [],
      c.in_ok-take-2.ensures ps h,
      grows_by ts ps (j, i) near,
      (λ n. absurd (both i j n.rising near.rising), λ n. Contains-push ps (j, i)),
    )

pub returns-else-is_near_by_extents-2 : goal.returns-else-is_near_by_extents-2
returns-else-is_near_by_extents-2 g c =
    let ts = map g.T.HasTriangle.triangle c.args.triangles.now in
    λ ps h. (
      ps,
      h,
      grows_by_nothing ts ps,
      (
        λ n. absurd (clash _ c.if-is_near_by_extents.false (c.is_near_by_extents.ensures.1 n)),
        λ n. absurd (clash _ c.if-is_near_by_extents-2.false (c.is_near_by_extents-else-is_near_by_extents.ensures.1 n)),
      ),
    )

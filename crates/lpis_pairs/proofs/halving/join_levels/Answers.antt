use Rattle.std.proofs.Common.{◌≡◌, ℕ, ◌/◌, ◌≤◌, List, length, map, sym, ◌∙◌, ap, subst, arith}
use Rattle.lpis_points.specs.Triangles.{most_triangles}
use Rattle.lpis_pairs.proofs.Common.{Extent}
use Rattle.lpis_pairs.specs.private.Holding.{AreBoxes, FindsLevel, half}
use Rattle.lpis_pairs.proofs.HalvingLemmas.{all_wait, first_level, level_found, next_level, none_waits}
use Rattle.lpis_pairs.proofs.halving.join_levels.Goals as goal

pub loop-highest-init : goal.loop-highest-init
loop-highest-init g c =
    let ts = map g.T.HasTriangle.triangle c.args.triangles.now in
    let xs = c.args.extents.now in
    let same = c.in_ok-boxes.ensures ∙ sym c.requires.extents in
    (first_level ts xs c.in_ok-boxes.boxes.items c.requires.extents same, λ ps h. (ps, h, all_wait ts xs c.in_ok-boxes.boxes.items 4294967295 ps same))

pub join_level-requires-clause-few : goal.join_level-requires-clause-few
join_level-requires-clause-few g c =
    subst (λ (ys : List Extent). length ys ≤ most_triangles) (sym c.deref.ensures.value)
    (subst (λ (n : ℕ). n ≤ most_triangles) (sym c.loop-highest.invariant.0.are.count) c.requires.few)

pub join_level-requires-clause-boxes : goal.join_level-requires-clause-boxes
join_level-requires-clause-boxes g c =
    subst (λ (ys : List Extent). AreBoxes c.args.extents.now ys) (sym c.deref.ensures.value) c.loop-highest.invariant.0.are

pub loop-highest-preserved : goal.loop-highest-preserved
loop-highest-preserved g c =
    let ts = map g.T.HasTriangle.triangle c.args.triangles.now in
    let xs = c.args.extents.now in
    let boxes = c.loop-highest.boxes.items in
    let highest = c.loop-highest.highest in
    let halves = c.in_ok-halves.halves.items in
    let is : halves ≡ map half boxes = c.in_ok-halves.ensures ∙ ap (λ (ys : List Extent). map half ys) c.deref-in-loop-highest.ensures.value in (
      next_level xs boxes halves highest is c.loop-highest.invariant.0,
      λ ps h.
          let x = c.loop-highest.invariant.1 ps h in
          let y = c.in_ok-join_level.ensures x.0 x.1 in
          let level = subst (λ (ys : List Extent). FindsLevel ts ys y.0) c.deref.ensures.value y.3 in
          (y.0, y.1, level_found ts xs boxes halves highest (highest / 2) ps x.0 y.0 is x.2 y.2 level),
    )

pub returns : goal.returns
returns g c = λ ps h.
    let x = c.loop-highest.invariant.1 ps h in (
      x.0,
      x.1,
      x.2.grows,
      none_waits (map g.T.HasTriangle.triangle c.args.triangles.now) c.args.extents.now c.loop-highest.boxes.items c.loop-highest.highest
          ps x.0 (omega (arith, c.loop-highest-test.false)) c.loop-highest.invariant.0 x.2,
    )

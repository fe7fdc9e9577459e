use Rattle.std.proofs.Common.{map, get_or, false}
use Rattle.lpis_pairs.proofs.Common.{Event}
use Rattle.std.proofs.lemmas.Option.{slice_get-get_or}
use Rattle.lpis_pairs.proofs.JoinedLemmas.{across_one_more, across_all, behind_bound}
use Rattle.lpis_pairs.proofs.halving.join_across.Goals as goal

-- what the code reads past the end of the events
none : Event
none = record { key = 0; index = 0; starts = false }

pub join_ahead-requires-clause-behind : goal.join_ahead-requires-clause-behind
unfolding none
join_ahead-requires-clause-behind g c = behind_bound c.args.others.now _ c.key_behind.result c.first_from-from.result c.key_behind.ensures.behind c.first_from-from.ensures

pub loop-at-preserved : goal.loop-at-preserved
unfolding none
loop-at-preserved g c = λ ps h.
    let es = c.args.events.now in
    let at = c.loop-at.at in
    let x = c.loop-at.invariant ps h in
    let y = c.in_ok-join_ahead.ensures x.0 x.1 in (
      y.0,
      y.1,
      across_one_more (map g.T.HasTriangle.triangle c.args.triangles.now) es c.args.others.now c.args.gap c.key_behind.result c.first_from-from.result ps x.0 y.0 at
          (get_or es at none) (slice_get-get_or es at none c.loop-at-test.true) c.key_behind.ensures.near c.first_from-from.ensures x.2 y.2 y.3,
    )

pub returns : goal.returns
returns g c = λ ps h.
    let x = c.loop-at.invariant ps h in
    (x.0, x.1, x.2.grows, across_all (map g.T.HasTriangle.triangle c.args.triangles.now) c.args.events.now c.args.others.now c.args.gap ps x.0 c.loop-at.at c.loop-at-test.false x.2)

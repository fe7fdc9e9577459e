use Rattle.std.proofs.Common.{map, get_or, false}
use Rattle.lpis_pairs.proofs.Common.{Event}
use Rattle.std.proofs.lemmas.Option.{slice_get-get_or}
use Rattle.lpis_pairs.proofs.JoinedLemmas.{joins_one_more, joins_all}
use Rattle.lpis_pairs.proofs.joining.join.Goals as goal

-- what the code reads past the end of the events
none : Event
none = record { key = 0; index = 0; starts = false }

pub loop-at-preserved : goal.loop-at-preserved
unfolding none
loop-at-preserved g c = λ ps h.
    let es = c.args.events.now in
    let x = c.loop-at.invariant ps h in
    let y = c.in_ok-steps.ensures x.0 x.1 in (
      y.0,
      y.1,
      joins_one_more (map g.T.HasTriangle.triangle c.args.triangles.now) es ps x.0 y.0 c.loop-at.at (get_or es c.loop-at.at none)
          (slice_get-get_or es c.loop-at.at none c.loop-at-test.true) x.2 y.2 y.3,
    )

pub returns-clause-joined : goal.returns-clause-joined
returns-clause-joined g c = λ t ps h.
    let x = c.loop-at.invariant ps h in
    (x.0, x.1, x.2.grows, joins_all (map g.T.HasTriangle.triangle c.args.triangles.now) c.args.events.now ps x.0 c.loop-at.at c.loop-at-test.false x.2)

use Rattle.std.proofs.Common.{◌∙◌}
use Rattle.lpis_edge_sums.proofs.NetSumLemmas.{growing_none, growing_more, growing_all}
use Rattle.lpis_edge_sums.proofs.signed.push_polygon.Goals as goal

pub loop-a-init : goal.loop-a-init
loop-a-init c = let e = c.into_iter-a-iterator.ensures.into_iter_gives ∙ c.edges-a-items.ensures.list in
    record { can = tt; ends = tt; sums = growing_none c.args.added e }

pub loop-a-preserved : goal.loop-a-preserved
loop-a-preserved c = record {
  can = tt;
  ends = tt;
  sums = growing_more c.in-Some.ensures.steps c.loop-a.invariant.sums c.in_ok-push_edge.ensures;
}

pub returns : goal.returns
returns c = growing_all c.in-None.ensures.steps.0 c.loop-a.invariant.sums

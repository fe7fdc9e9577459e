use Rattle.std.proofs.Common.{refl}
use Rattle.lpis_edge_sums.proofs.NetSumLemmas.{grows_by_pushed, grows_by_loop}
use Rattle.lpis_edge_sums.proofs.signed.push_edge.Goals as goal

pub returns-in_ok-push : goal.returns-in_ok-push
returns-in_ok-push c = grows_by_pushed c.args.added c.args.a c.args.b c.in-Some.edge _ _ c.in-Some.ensures c.in_ok-push.ensures.items

pub returns-in_default : goal.returns-in_default
returns-in_default c = grows_by_loop c.args.added c.args.a c.args.b c.in_default.ensures refl

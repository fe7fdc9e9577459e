use Rattle.std.proofs.Common.{sym, ◌∙◌}
use Rattle.lpis_checker.proofs.TurnedLemmas.{told_by_edge}
use Rattle.lpis_checker.proofs.lines.edge_separates.Goals as goal

pub returns-in-Some : goal.returns-in-Some
returns-in-Some c =
    told_by_edge c.args.k c.args.left.now c.args.right.now _ c.is_right.result c.requires (sym c.edge.ensures ∙ c.in-Some.is) c.is_right.ensures

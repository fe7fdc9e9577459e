use Rattle.std.proofs.Common.{◌≡◌}
use Rattle.lpis_run_country.specs.private.Progressing.{IsHere, gathers, setting_at}
use Rattle.lpis_run_country.proofs.passing.pass_regions.Given as goal

abbrev pub invariant-loop-index : goal.invariant-loop-index
invariant-loop-index g l =
    (l.names.items ≡ l.fn.names.items)
    × (gathers l.progress.gathered ≡ gathers l.fn.progress.gathered)
    × IsHere (setting_at (g.G.Regions.texts l.fn.regions) l.fn.detail l.fn.names.items l.fn.progress) l.progress l.index (g.W.Write.contents l.fn.out) (g.W.Write.contents l.out)

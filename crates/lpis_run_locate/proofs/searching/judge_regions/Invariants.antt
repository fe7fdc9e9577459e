use Rattle.std.proofs.Common.{◌≡◌, [], List, ℕ}
use Rattle.lpis_run_locate.specs.private.Found.{IsSearched}
use Rattle.lpis_run_locate.specs.private.Searching.{IsHere, setting_at}
use Rattle.lpis_run_locate.proofs.searching.judge_regions.Given as goal

abbrev pub invariant-loop-index : goal.invariant-loop-index
invariant-loop-index g l =
    (l.names.items ≡ l.fn.names.items)
    × ((table : List ℕ) → IsSearched table [] l.fn.progress.sought
    → IsHere (setting_at (g.G.Regions.texts l.fn.regions) l.fn.names.items l.fn.progress) table l.progress l.index)

use Rattle.std.proofs.Common.{◌≡◌, map, take}
use Rattle.std.specs.String.{string_bytes}
use Rattle.lpis_run_publish_country.specs.private.Preparing.{AreRowsOf}
use Rattle.lpis_run_publish_country.proofs.lineage.read_lineage.Given as goal

abbrev pub invariant-loop-index : goal.invariant-loop-index
invariant-loop-index g l =
    (l.names.items ≡ l.fn.names.items) × AreRowsOf (g.L.Lineages.lineages l.fn.lineages) (take l.index (map string_bytes l.fn.names.items)) l.lineage

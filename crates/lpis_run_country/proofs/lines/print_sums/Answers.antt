use Rattle.std.proofs.Common.{OnOk, List, ℕ, arith, subst}
use Rattle.std.specs.Io.KnownBytes.{Appends}
use Rattle.lpis_run_country.proofs.TotalsLemmas.{bounded_of, printable, totals_region}
use Rattle.lpis_run_country.proofs.lines.print_sums.Goals as goal

pub print_totals-requires : goal.print_totals-requires
print_totals-requires g c =
    printable c.release_totals.result (bounded_of c.args.release.now c.args.release.now.parcels c.release_totals.result c.release_totals.ensures.totals) (omega (arith, c.release_totals.ensures.few))

pub returns : goal.returns
returns g c = subst (λ (text : List ℕ). OnOk c.print_totals.result (Appends (g.W.Write.contents c.args.out.now) (g.W.Write.contents c.print_totals.new.out) text))
    (totals_region c.args.release.now c.release_totals.result c.is_region.ensures c.release_totals.ensures.totals) c.print_totals.ensures

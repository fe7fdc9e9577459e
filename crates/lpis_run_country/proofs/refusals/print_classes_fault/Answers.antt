use Rattle.std.proofs.Common.{◌++◌, codes, decimal, subst}
use Rattle.std.proofs.lemmas.List.{append_assoc}
use Rattle.lpis_run.proofs.Shared.{appends-more}
use Rattle.lpis_run.specs.Refusals.{region_end}
use Rattle.std.specs.Io.KnownBytes.{Appends}
use Rattle.lpis_run_country.proofs.refusals.print_classes_fault.Goals as goal

pub returns : goal.returns
returns g c = λ names.
    let first = codes "refused 96 classes row " in
    let line = first ++ decimal c.args.row in
    subst (Appends (g.W.Write.contents c.args.out.now) (g.W.Write.contents c.print_region.new.out)) (append_assoc first (decimal c.args.row) (region_end c.args.name.now))
    (appends-more (g.W.Write.contents c.args.out.now) (g.W.Write.contents c.write.new.self) (g.W.Write.contents c.print_region.new.out) line
    (region_end c.args.name.now) c.in_ok-write.ensures.bytes c.in_ok-print_region.ensures)

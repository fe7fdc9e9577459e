use Rattle.std.proofs.Common.{OnOk, map, subst, sym}
use Rattle.std.specs.Io.KnownBytes.{Appends}
use Rattle.std.specs.String.{string_bytes}
use Rattle.lpis_country_seam.specs.declared.fault.SeamFault.{SeamFault}
use Rattle.lpis_run_country.specs.CountryLines.{seam_refusal_text}
use Rattle.lpis_run_country.proofs.refusals.print_seam_fault.Goals as goal

pub returns-in-Classes-clause-line : goal.returns-in-Classes-clause-line
returns-in-Classes-clause-line g c =
    let names = map string_bytes c.args.names.now in
    subst (λ (f : SeamFault). OnOk c.print_classes_fault.result (Appends (g.W.Write.contents c.args.out.now) (g.W.Write.contents c.print_classes_fault.new.out)
    (seam_refusal_text names c.args.name.now f))) (sym c.in-Classes.is) (c.print_classes_fault.ensures names)

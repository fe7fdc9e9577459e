use Rattle.std.proofs.Common.{◌∙◌, [], ap, get_or, map, refl, subst, sym}
use Rattle.std.proofs.lemmas.List.{get_or-map}
use Rattle.std.specs.String.{string_bytes}
use Rattle.lpis_run.specs.declared.failure.Failure.TheVariants.{ReadOf}
use Rattle.lpis_run_country.specs.private.Progressing.{IsFailureOf}
use Rattle.lpis_run_country.proofs.folder.of_region.Goals as goal

pub returns-in-Read : goal.returns-in-Read
returns-in-Read c =
    let name = get_or (map string_bytes c.args.names.now.items) c.args.index [] in
    subst (λ failure. IsFailureOf failure name (ReadOf c.in-Read.file c.swap_remove.result)) (sym c.in-Read.is)
    (c.swap_remove.result, ap string_bytes c.swap_remove.ensures.value ∙ sym (get_or-map string_bytes c.args.names.now.items c.args.index _ [] c.requires), refl)

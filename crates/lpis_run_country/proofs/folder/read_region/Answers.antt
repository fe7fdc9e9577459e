use Rattle.std.proofs.Common.{◌∙◌, [], ap, subst, sym}
use Rattle.std.proofs.lemmas.List.{get_or-map}
use Rattle.std.specs.String.{string_bytes}
use Rattle.lpis_run.specs.Inputs.{inputs_of}
use Rattle.lpis_run_country.specs.CountryFailures.{IsUnreadFolder}
use Rattle.lpis_run_country.specs.Regions.{IsFolderRead}
use Rattle.lpis_run_country.proofs.RunLemmas.{is_stopped}
use Rattle.lpis_run_country.proofs.folder.read_region.Goals as goal

pub returns-in-Ok-clause-bytes : goal.returns-in-Ok-clause-bytes
returns-in-Ok-clause-bytes g c =
    let is = c.as_str.ensures.value ∙ ap string_bytes c.index.ensures ∙ sym (get_or-map string_bytes c.args.names.now.items c.args.index _ [] c.requires) in
    subst (λ name. IsFolderRead (inputs_of c.in-Ok.inputs) (g.G.Regions.texts c.args.regions.now name)) is c.in-Ok.ensures.bytes

pub returns-in-Err-clause-failure : goal.returns-in-Err-clause-failure
returns-in-Err-clause-failure g c = λ left.
    let is = c.as_str.ensures.value ∙ ap string_bytes c.index.ensures ∙ sym (get_or-map string_bytes c.args.names.now.items c.args.index _ [] c.requires) in
    let texts = g.G.Regions.texts c.args.regions.now in
    is_stopped texts c.in-Err.failure _ left c.of_region.result (subst (λ name. IsUnreadFolder (texts name) c.in-Err.failure) is c.in-Err.ensures.failure) c.of_region.ensures

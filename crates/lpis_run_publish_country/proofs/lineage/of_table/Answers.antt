use Rattle.std.proofs.Common.{◌∙◌, [], ap, inr, refl, sym}
use Rattle.std.proofs.lemmas.List.{get_or-map}
use Rattle.std.specs.String.{string_bytes}
use Rattle.lpis_run_publish_country.proofs.lineage.of_table.Goals as goal

pub returns-in-Read : goal.returns-in-Read
returns-in-Read c =
    inr (c.swap_remove.result, ap string_bytes c.swap_remove.ensures.value ∙ sym (get_or-map string_bytes c.args.names.now.items c.args.index _ [] c.requires.inside), refl)

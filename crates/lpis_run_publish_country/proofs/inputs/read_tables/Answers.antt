use Rattle.std.proofs.Common.{◌∙◌, ap, inl, map, refl, subst, sym}
use Rattle.std.proofs.lemmas.Result.{err_from_is_err_and}
use Rattle.std.specs.String.{string_bytes}
use Rattle.lpis_run_country.specs.Beginning.{IsPlanned}
use Rattle.lpis_run_publish_country.specs.private.Preparing.{AreRowsOf}
use Rattle.lpis_run_publish_country.proofs.PreparingLemmas.{handed_back}
use Rattle.lpis_run_publish_country.proofs.inputs.read_tables.Goals as goal

pub new-requires : goal.new-requires
new-requires g c =
    rw (sym (ap (map string_bytes) c.in_ok-lineage.ensures.names ∙ c.into_parts-names.ensures.names), sym c.into_parts-names.ensures.tiles) at c.into_parts-names.ensures.planned

pub returns-clause-begun : goal.returns-clause-begun
returns-clause-begun g c =
    handed_back c.new.result c.args.begun (c.new.ensures.names ∙ ap (map string_bytes) c.in_ok-lineage.ensures.names ∙ c.into_parts-names.ensures.names)
    (c.new.ensures.tiles ∙ c.into_parts-names.ensures.tiles) (c.new.ensures.classes ∙ c.into_parts-names.ensures.classes)

pub returns-clause-rows : goal.returns-clause-rows
returns-clause-rows g c = rw c.into_parts-names.ensures.names at c.in_ok-lineage.ensures.rows

pub returns-in_err-lineage-clause-unprepared : goal.returns-in_err-lineage-clause-unprepared
returns-in_err-lineage-clause-unprepared g c =
    let p = err_from_is_err_and c.from_residual.result c.from_residual.ensures.1 in
    rw (p.1, p.2) (rw c.into_parts-names.ensures.names at c.in_err-lineage.ensures.unprepared)

use Rattle.std.proofs.Common.{inl}
use Rattle.lpis_run_country.proofs.PlaceLemmas.{parcel_at}
use Rattle.lpis_run_country.proofs.TotalsLemmas.{pieces_can_be_counted, few_pieces}
use Rattle.lpis_run_country.proofs.totals.count_pieces.Goals as goal

pub count-requires-clause-fits : goal.count-requires-clause-fits
count-requires-clause-fits c =
    let found = parcel_at c.args.release.now.parcels c.args.place c.requires in
    inl (pieces_can_be_counted c.args.release.now found.0.id c.pieces_at.result (c.pieces_at.ensures found.0 found.1) c.pieces.ensures.few)

pub returns-clause-few : goal.returns-clause-few
returns-clause-few c =
    let found = parcel_at c.args.release.now.parcels c.args.place c.requires in
    few_pieces c.args.release.now found.0.id c.pieces_at.result c.count.result (c.pieces_at.ensures found.0 found.1) c.pieces.ensures.few c.count.ensures.bound

use Rattle.lpis_release.specs.Release.{parcel_ids}
use Rattle.lpis_register_rows.proofs.AscendingLemmas.{all-moved}
use Rattle.lpis_register_rows.proofs.ShapeLemmas.{parcels-ascend}
use Rattle.lpis_register_rows.specs.Shapes.{IsLive, IsSpelled}
use Rattle.lpis_register_rows.proofs.shapes.shapes_in.Goals as goal

pub returns-clause-are : goal.returns-clause-are
returns-clause-are c =
    let same = rw c.in_ok-shapes.ensures.same at c.sort.ensures.same in
    record { ascend = parcels-ascend c.args.parcels.now c.sort.new.rows.items c.requires.distinct same c.sort.ensures.sorted; same = same }

pub returns-clause-live : goal.returns-clause-live
returns-clause-live c = all-moved (IsLive (parcel_ids c.args.parcels.now)) c.in_ok-shapes.shapes.items c.sort.new.rows.items c.sort.ensures.same c.in_ok-shapes.ensures.live

pub returns-clause-spelled : goal.returns-clause-spelled
returns-clause-spelled c = all-moved IsSpelled c.in_ok-shapes.shapes.items c.sort.new.rows.items c.sort.ensures.same c.in_ok-shapes.ensures.spelled

use Rattle.lpis_release.proofs.JoinLemmas.{class-unknown, none-unknown, parcel-unknown}
use Rattle.lpis_release.proofs.joins.joined_indices.Goals as goal

pub returns-in_default-clause-err : goal.returns-in_default-clause-err
returns-in_default-clause-err c =
    rw c.fault.ensures (parcel-unknown c.args.parcels.now c.args.classes.now c.args.row c.args.piece.now c.position.result c.position.ensures.found c.in_default.is)

pub returns-in_default-position-clause-err : goal.returns-in_default-position-clause-err
returns-in_default-position-clause-err c =
    rw c.fault-in_default-position.ensures (class-unknown c.args.parcels.now c.args.classes.now c.args.row
    c.args.piece.now c.position.result c.position-2.result c.in-Some.parcel c.position.ensures.found c.in-Some.is
    c.position-2.ensures.found c.in_default-position.is)

pub returns-clause-none : goal.returns-clause-none
returns-clause-none c =
    none-unknown c.args.parcels.now c.args.classes.now c.args.row c.args.piece.now c.position.result c.position-2.result
    c.in-Some.parcel c.in-Some-position.class c.position.ensures.found c.in-Some.is c.position-2.ensures.found
    c.in-Some-position.is

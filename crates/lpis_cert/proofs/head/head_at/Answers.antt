use Rattle.std.proofs.Common.{refl}
use Rattle.lpis_cert.proofs.Common.{PieceLine, ParcelLine, ExactLine, PairsLine}
use Rattle.lpis_cert.proofs.StepLemmas.{placed_line_taken, placed_number_fault}
use Rattle.lpis_cert.proofs.HeadLemmas.{values_piece, values_parcel, values_exact, values_pairs, stands_of, no_block}
use Rattle.lpis_cert.proofs.head.head_at.Goals as goal

pub named-requires : goal.named-requires
named-requires c =
    (placed_line_taken c.args.version (PieceLine c.in-Some.id.now c.in-Some.triangles c.in-Some.flats)
    c.in_ok-kind.ensures (values_piece c.args.version _ _ _ c.in-Piece.is c.in-Some.ensures)).1.0

pub named-requires-in-Some-parcel_fields : goal.named-requires-in-Some-parcel_fields
named-requires-in-Some-parcel_fields c =
    (placed_line_taken c.args.version (ParcelLine c.in-Some-parcel_fields.id.now c.in-Some-parcel_fields.flats)
    c.in_ok-kind.ensures (values_parcel c.args.version _ _ _ c.in-Parcel.is c.in-Some-parcel_fields.ensures)).1.0

pub named-requires-in-Some-exact_fields : goal.named-requires-in-Some-exact_fields
named-requires-in-Some-exact_fields c =
    (placed_line_taken c.args.version (ExactLine c.in-Some-exact_fields.merge c.in-Some-exact_fields.id.now c.in-Some-exact_fields.flats)
    c.in_ok-kind.ensures (values_exact c.args.version _ _ _ c.in-Exact.is c.in-Some-exact_fields.ensures)).1.1

pub returns-in_ok-named-in-Some-clause-ok : goal.returns-in_ok-named-in-Some-clause-ok
returns-in_ok-named-in-Some-clause-ok c =
    let id = c.in_ok-named-in-Some.ensures in
    rw id (placed_line_taken c.args.version (PieceLine c.in-Some.id.now c.in-Some.triangles c.in-Some.flats) c.in_ok-kind.ensures
    (values_piece c.args.version _ _ _ c.in-Piece.is c.in-Some.ensures)).0

pub returns-in_ok-named-in-Some-clause-stands : goal.returns-in_ok-named-in-Some-clause-stands
returns-in_ok-named-in-Some-clause-stands c =
    (placed_line_taken c.args.version (PieceLine c.in-Some.id.now c.in-Some.triangles c.in-Some.flats)
    c.in_ok-kind.ensures (values_piece c.args.version _ _ _ c.in-Piece.is c.in-Some.ensures)).2

pub returns-in-None-clause-err : goal.returns-in-None-clause-err
returns-in-None-clause-err c =
    let is = c.no_number.ensures in
    rw is (refl, placed_number_fault c.args.version c.in_ok-kind.ensures (values_piece c.args.version _ _ _ c.in-Piece.is c.in-None.ensures))

pub returns-in_ok-named-in-Some-parcel_fields-clause-ok : goal.returns-in_ok-named-in-Some-parcel_fields-clause-ok
returns-in_ok-named-in-Some-parcel_fields-clause-ok c =
    let id = c.in_ok-named-in-Some-parcel_fields.ensures in
    rw id (placed_line_taken c.args.version (ParcelLine c.in-Some-parcel_fields.id.now c.in-Some-parcel_fields.flats) c.in_ok-kind.ensures
    (values_parcel c.args.version _ _ _ c.in-Parcel.is c.in-Some-parcel_fields.ensures)).0

pub returns-in_ok-named-in-Some-parcel_fields-clause-stands : goal.returns-in_ok-named-in-Some-parcel_fields-clause-stands
returns-in_ok-named-in-Some-parcel_fields-clause-stands c =
    (placed_line_taken c.args.version (ParcelLine c.in-Some-parcel_fields.id.now c.in-Some-parcel_fields.flats) c.in_ok-kind.ensures
    (values_parcel c.args.version _ _ _ c.in-Parcel.is c.in-Some-parcel_fields.ensures)).2

pub returns-in-None-parcel_fields-clause-err : goal.returns-in-None-parcel_fields-clause-err
returns-in-None-parcel_fields-clause-err c =
    let is = c.no_number-in-None-parcel_fields.ensures in
    rw is (refl, placed_number_fault c.args.version c.in_ok-kind.ensures (values_parcel c.args.version _ _ _ c.in-Parcel.is c.in-None-parcel_fields.ensures))

pub returns-in_ok-named-in-Some-exact_fields-clause-ok : goal.returns-in_ok-named-in-Some-exact_fields-clause-ok
returns-in_ok-named-in-Some-exact_fields-clause-ok c =
    let id = c.in_ok-named-in-Some-exact_fields.ensures in
    rw id (placed_line_taken c.args.version (ExactLine c.in-Some-exact_fields.merge c.in-Some-exact_fields.id.now c.in-Some-exact_fields.flats) c.in_ok-kind.ensures
    (values_exact c.args.version _ _ _ c.in-Exact.is c.in-Some-exact_fields.ensures)).0

pub returns-in_ok-named-in-Some-exact_fields-clause-fits : goal.returns-in_ok-named-in-Some-exact_fields-clause-fits
returns-in_ok-named-in-Some-exact_fields-clause-fits c =
    let id = c.in_ok-named-in-Some-exact_fields.ensures in
    rw id (placed_line_taken c.args.version (ExactLine c.in-Some-exact_fields.merge c.in-Some-exact_fields.id.now c.in-Some-exact_fields.flats) c.in_ok-kind.ensures
    (values_exact c.args.version _ _ _ c.in-Exact.is c.in-Some-exact_fields.ensures)).1

pub returns-in-None-exact_fields-clause-err : goal.returns-in-None-exact_fields-clause-err
returns-in-None-exact_fields-clause-err c =
    let is = c.no_number-in-None-exact_fields.ensures in
    rw is (refl, placed_number_fault c.args.version c.in_ok-kind.ensures (values_exact c.args.version _ _ _ c.in-Exact.is c.in-None-exact_fields.ensures))

pub returns-in-Some-pairs_fields-clause-ok : goal.returns-in-Some-pairs_fields-clause-ok
returns-in-Some-pairs_fields-clause-ok c =
    (placed_line_taken c.args.version (PairsLine c.in-Some-pairs_fields.count) c.in_ok-kind.ensures
    (values_pairs c.args.version _ _ _ c.in-Pairs.is c.in-Some-pairs_fields.ensures)).0

pub returns-in-None-pairs_fields-clause-err : goal.returns-in-None-pairs_fields-clause-err
returns-in-None-pairs_fields-clause-err c =
    let is = c.no_number-in-None-pairs_fields.ensures in
    rw is (refl, placed_number_fault c.args.version c.in_ok-kind.ensures (values_pairs c.args.version _ _ _ c.in-Pairs.is c.in-None-pairs_fields.ensures))

pub unreachable-requires : goal.unreachable-requires
unreachable-requires c =
    no_block c.args.stage c.in_ok-kind.kind (stands_of c.args.version c.args.stage _ _ _ _ _ _ c.in_ok-kind.ensures) c.in-Triangle.is

use Rattle.std.proofs.Common.{◌≡◌, map, length, arith, ◌∙◌, ◌<◌, ◌≤◌}
use Rattle.lpis_cert.proofs.Common.{greatest_count, nat_tests, err_from_is_err_and, length-map, block_of_piece, block_of_parcel, exact_of, separator_of}
use Rattle.lpis_cert.proofs.BlockLemmas.{separators_fit}
use Rattle.lpis_cert.proofs.DraftLemmas.{pairs_fault, end_fault, trailing_fault, pairs_follow, whole_of, whole_cert}
use Rattle.lpis_cert.proofs.blocks.finish.Goals as goal

pub returns-in_err-pairs-clause-err : goal.returns-in_err-pairs-clause-err
returns-in_err-pairs-clause-err c =
    let p = err_from_is_err_and c.from_residual.result c.from_residual.ensures.1 in
    let d = c.args.draft in
    rw (p.1, p.2) (λ text n reads. pairs_fault c.in_err-pairs.field-0.0 d.stage (record { triangles = d.triangles; flats = d.flats })
    c.args.count (omega arith)
    reads c.in_err-pairs.ensures.err)

pub returns-in_err-rest-clause-err : goal.returns-in_err-rest-clause-err
returns-in_err-rest-clause-err c =
    let p = err_from_is_err_and c.from_residual-in_err-rest.result c.from_residual-in_err-rest.ensures.1 in
    let d = c.args.draft in
    let ps = c.in_ok-pairs.pairs.items in
    rw (p.1, p.2) (λ text n reads. end_fault c.in_err-rest.field-0.0 d.stage (record { triangles = d.triangles; flats = d.flats })
    c.args.count (map separator_of ps) (omega arith) reads (separators_fit ps)
    (length-map ps separator_of ∙ c.in_ok-pairs.ensures.count) c.in_ok-pairs.ensures.ok
    c.in_err-rest.ensures)

pub returns-then-not-is_empty-clause-err : goal.returns-then-not-is_empty-clause-err
returns-then-not-is_empty-clause-err c =
    let d = c.args.draft in
    let ps = c.in_ok-pairs.pairs.items in
    let rest = c.in_ok-rest.rest in
    let len = length-map ps separator_of ∙ c.in_ok-pairs.ensures.count in
    let some : 0 < length rest.text.now = grind (arith, nat_tests) in
    let small : length (map separator_of ps) ≤ greatest_count = omega arith in
    λ text n reads. trailing_fault d.stage (record { triangles = d.triangles; flats = d.flats }) (map separator_of ps) (separators_fit ps) small
    (pairs_follow (map separator_of ps) len reads
    c.in_ok-pairs.ensures.ok c.in_ok-rest.ensures)
    some

pub returns-clause-ok : goal.returns-clause-ok
returns-clause-ok c =
    let d = c.args.draft in
    let ps = c.in_ok-pairs.pairs.items in
    let rest = c.in_ok-rest.rest in
    let len = length-map ps separator_of ∙ c.in_ok-pairs.ensures.count in
    let none : length rest.text.now ≡ 0 = grind (arith, nat_tests) in
    λ text n reads. whole_cert d.version c.cert_of.result d.pieces.items d.parcels.items d.exact.items ps _ _ (c.cert_of.ensures.parts.pieces_are
    ∙ c.in_ok-pieces.ensures) (c.cert_of.ensures.parts.parcels_are ∙ c.in_ok-parcels.ensures) (c.cert_of.ensures.parts.exact_is ∙ c.in_ok-exact.ensures) c.cert_of.ensures.parts.pairs_are
    (whole_of (map block_of_piece d.pieces.items) (map block_of_parcel d.parcels.items) (map exact_of d.exact.items) (map separator_of ps)
    (pairs_follow (map separator_of ps) len reads
    c.in_ok-pairs.ensures.ok c.in_ok-rest.ensures)
    none)

use Rattle.lpis_cert.specs.declared.kind.Stage.TheVariants as stage
use Rattle.std.proofs.Common.{◌≡◌, ◌++◌, ◌∷◌, [], map, length, arith, ◌∙◌, ◌<◌, ◌+◌, ◌⊎◌, inl, inr, refl}
use Rattle.lpis_cert.proofs.Common.{err_from_is_err_and, length-map, most_triangles, most_flats, PieceBlock, grow, block_of_piece, block_of_parcel, exact_of, triangle_corners, corner_numbers}
use Rattle.lpis_cert.proofs.DraftLemmas.{too_many_piece, piece_grown, piece_fault, flat_fault, piece_pushed, none_yet}
use Rattle.lpis_cert.proofs.blocks.piece_block.Goals.{then-all_triangles-gt-MOST_TRIANGLES-via-then-all_triangles-gt-MOST_TRIANGLES}
use Rattle.lpis_cert.proofs.blocks.piece_block.Goals.{then-all_triangles-gt-MOST_TRIANGLES-via-else-all_triangles-gt-MOST_TRIANGLES+then-all_flats-gt-MOST_FLATS}
use Rattle.lpis_cert.proofs.blocks.piece_block.Goals as goal

pub returns-then-all_triangles-gt-MOST_TRIANGLES-clause-err : goal.returns-then-all_triangles-gt-MOST_TRIANGLES-clause-err
returns-then-all_triangles-gt-MOST_TRIANGLES-clause-err c =
    let d = c.args.draft.now in
    let over : (most_triangles < d.triangles + c.args.triangle_count) ⊎ (most_flats < d.flats + c.args.flat_count) = elim c.then-all_triangles-gt-MOST_TRIANGLES.branch [
      | then-all_triangles-gt-MOST_TRIANGLES-via-then-all_triangles-gt-MOST_TRIANGLES w ↦ inl w.if-all_triangles-gt-MOST_TRIANGLES.true
      | then-all_triangles-gt-MOST_TRIANGLES-via-else-all_triangles-gt-MOST_TRIANGLES+then-all_flats-gt-MOST_FLATS w ↦ inr w.if-all_flats-gt-MOST_FLATS.true
    ] in
    too_many_piece (record { triangles = d.triangles; flats = d.flats }) d.stage c.args.id c.args.triangle_count
    c.args.flat_count
    c.requires.fresh (c.requires.named, omega arith, omega arith) over c.requires.begins

pub returns-in_err-own_triangles-clause-err : goal.returns-in_err-own_triangles-clause-err
returns-in_err-own_triangles-clause-err c =
    let p = err_from_is_err_and c.from_residual.result c.from_residual.ensures.1 in
    let d = c.args.draft.now in
    rw (p.1, p.2) (piece_fault c.in_err-own_triangles.field-0.0 (record { triangles = d.triangles; flats = d.flats })
    d.stage c.args.id c.args.triangle_count c.args.flat_count
    c.requires.fresh (c.requires.named, omega arith, omega arith) c.if-all_triangles-gt-MOST_TRIANGLES.false c.if-all_flats-gt-MOST_FLATS.false c.requires.begins
    (c.in_err-own_triangles.ensures.err stage.Pieces c.args.flat_count (grow (record { triangles = d.triangles; flats = d.flats }) c.args.triangle_count c.args.flat_count)))

pub returns-in_err-own_flats-clause-err : goal.returns-in_err-own_flats-clause-err
returns-in_err-own_flats-clause-err c =
    let p = err_from_is_err_and c.from_residual-in_err-own_flats.result c.from_residual-in_err-own_flats.ensures.1 in
    let d = c.args.draft.now in
    let ts = c.in_ok-own_triangles.own_triangles.items in
    rw (p.1, p.2) (flat_fault c.in_err-own_flats.field-0.0 (record { triangles = d.triangles; flats = d.flats }) d.stage
    c.args.id c.args.triangle_count c.args.flat_count (triangle_corners ts)
    c.requires.fresh (c.requires.named, omega arith, omega arith) c.if-all_triangles-gt-MOST_TRIANGLES.false
    c.if-all_flats-gt-MOST_FLATS.false c.requires.begins (length-map ts corner_numbers
    ∙ c.in_ok-own_triangles.ensures.count) c.in_ok-own_triangles.ensures.ok
    (c.in_err-own_flats.ensures.err stage.Pieces 0 (grow (record { triangles = d.triangles; flats = d.flats }) c.args.triangle_count c.args.flat_count)))

pub returns-clause-ok : goal.returns-clause-ok
returns-clause-ok c =
    let d = c.args.draft.now in
    let ts = c.in_ok-own_triangles.own_triangles.items in
    let fs = c.in_ok-own_flats.own_flats.items in
    let q : PieceBlock = record { id = c.args.id; triangles = triangle_corners ts; flats = triangle_corners fs } in
    let grown : map block_of_piece c.push.new.self.items ≡ map block_of_piece d.pieces.items ++ q ∷ [] =
    rw c.in_ok-push.ensures.items (piece_pushed d.pieces.items c.piece_part.result c.args.id ts fs
    c.piece_part.ensures.id c.piece_part.ensures.triangles c.piece_part.ensures.flats) in
    let none = length-map d.parcels.items block_of_parcel ∙ d.no_parcels c.requires.fresh in
    let none2 = length-map d.exact.items exact_of ∙ none_yet d.stage (length d.exact.items) c.requires.fresh d.no_exact in (
      refl,
      piece_grown (map block_of_piece d.pieces.items) (map block_of_piece c.push.new.self.items) (map block_of_parcel d.parcels.items) (map exact_of d.exact.items) q
          d.stage (record { triangles = d.triangles; flats = d.flats }) c.args.triangle_count c.args.flat_count
          grown c.requires.fresh none none2 (c.requires.named, omega arith, omega arith) c.if-all_triangles-gt-MOST_TRIANGLES.false c.if-all_flats-gt-MOST_FLATS.false
          (length-map ts corner_numbers ∙ c.in_ok-own_triangles.ensures.count) (length-map fs corner_numbers
          ∙ c.in_ok-own_flats.ensures.count) c.requires.begins c.in_ok-own_triangles.ensures.ok
          c.in_ok-own_flats.ensures.ok,
    )

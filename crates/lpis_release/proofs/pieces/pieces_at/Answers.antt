use Rattle.lpis_release.proofs.Common.{joined_pieces, names_parcel}
use Rattle.lpis_release.proofs.IndexLemmas.{at-indices-where}
use Rattle.lpis_release.proofs.NamingLemmas.{id-at}
use Rattle.lpis_release.proofs.pieces.pieces_at.Goals as goal

pub returns : goal.returns
returns c = λ parcel at.
    at-indices-where (names_parcel parcel.id) c.args.release.now.pieces c.pieces.result.now (joined_pieces c.joins_at.result.now) c.pieces.ensures.pieces
    (c.joins_at.ensures.pieces parcel.id (id-at c.args.release.now.parcels c.args.index parcel at))

use Rattle.lpis_release.proofs.Common.{joined_pieces, names_parcel}
use Rattle.lpis_release.proofs.IndexLemmas.{at-indices-where}
use Rattle.lpis_release.proofs.pieces.pieces_of.Goals as goal

pub returns : goal.returns
returns c = at-indices-where (names_parcel c.args.parcel.now) c.args.release.now.pieces c.pieces.result.now (joined_pieces c.joins_of.result.now) c.pieces.ensures.pieces c.joins_of.ensures.pieces

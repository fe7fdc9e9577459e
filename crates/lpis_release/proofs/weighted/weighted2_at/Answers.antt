use Rattle.std.proofs.Common.{◌∙◌, arith}
use Rattle.std.proofs.lemmas.Int.{ints, to_z-of_z}
use mir.Syntax.{w128}
use mir.Val.{SFits}
use Rattle.lpis_release.proofs.Common.{joined_pieces}
use Rattle.lpis_release.proofs.NamingLemmas.{id-at}
use Rattle.lpis_release.proofs.WeightedLemmas.{weighted-all}
use Rattle.lpis_release.proofs.weighted.weighted2_at.Goals as goal

pub returns : goal.returns
returns c = λ parcel place.
    let fits : SFits w128 c.joined_weight.result = omega (arith, ints, c.joined_weight.type_inv) in
    to_z-of_z w128 c.joined_weight.result fits ∙ c.joined_weight.ensures
    ∙ weighted-all c.args.release.now parcel.id (joined_pieces c.joins_at.result.now)
    (c.joins_at.ensures.pieces parcel.id (id-at c.args.release.now.parcels c.args.index parcel place))

use Rattle.std.proofs.Common.{◌∙◌, arith}
use Rattle.std.proofs.lemmas.Int.{ints, to_z-of_z}
use mir.Syntax.{w128}
use mir.Val.{SFits}
use Rattle.lpis_release.proofs.Common.{joined_pieces}
use Rattle.lpis_release.proofs.WeightedLemmas.{weighted-all}
use Rattle.lpis_release.proofs.weighted.weighted2.Goals as goal

pub returns : goal.returns
returns c =
    let fits : SFits w128 c.joined_weight.result = omega (arith, ints, c.joined_weight.type_inv) in
    to_z-of_z w128 c.joined_weight.result fits ∙ c.joined_weight.ensures
    ∙ weighted-all c.args.release.now c.args.parcel.now (joined_pieces c.joins_of.result.now) c.joins_of.ensures.pieces

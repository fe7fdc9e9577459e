use Rattle.std.proofs.Common.{ap, arith, ◌∙◌}
use Rattle.std.proofs.lemmas.List.{length-map}
use Rattle.lpis_release.proofs.Common.{Contents, Join, indices_where, joined_pieces, names_parcel}
use Rattle.lpis_release.proofs.IndexLemmas.{few-indices, within-indices}
use Rattle.lpis_release.proofs.NamingLemmas.{id-within}
use Rattle.lpis_release.proofs.release.Release.joins_at.Goals as goal

pub returns-clause-pieces : goal.returns-clause-pieces
returns-clause-pieces c = λ id place.
    let there = rw (← c.self.view_is) at place in
    ap joined_pieces c.get.ensures
    ∙ c.self.invariant.indexed.groups_are c.args.index id there
    ∙ ap (λ (r : Contents). indices_where (names_parcel id) 0 r.pieces) c.self.view_is

pub returns-clause-within : goal.returns-clause-within
returns-clause-within c =
    let at = id-within c.args.self.now.parcels c.args.index c.requires in
    within-indices (names_parcel at.0) c.args.self.now.pieces (joined_pieces c.get.result.now) (returns-clause-pieces c at.0 at.1)

pub returns-clause-few : goal.returns-clause-few
returns-clause-few c =
    let at = id-within c.args.self.now.parcels c.args.index c.requires in
    let few = few-indices (names_parcel at.0) c.args.self.now.pieces (joined_pieces c.get.result.now) (returns-clause-pieces c at.0 at.1) in
    omega (arith, length-map c.get.result.now (λ (j : Join). j.piece))

use Rattle.std.proofs.Common.{◌≡◌, ◌<◌, ◌≤◌, ℕ, List, All, get_or, length, arith, sym, ◌∙◌}
use Rattle.std.proofs.lemmas.List.{get_or_default, get_or-map, length-map}
use Rattle.std.proofs.Math.IntN.{+ℤ_idl}
use mir.Syntax.{w128}
use mir.Val.{to_z}
use Rattle.lpis_release.proofs.Common.{Join, joined_pieces}
use Rattle.lpis_release.proofs.WeightedLemmas.{item-within, sum-more, weighted-added, weighted-end}
use Rattle.lpis_release.proofs.weighted.joined_weight.Goals as goal

pub loop-join-init : goal.loop-join-init
loop-join-init c = (+ℤ_idl _, omega arith)

-- what the code reads past the end of the joins
none : Join
none = record { parcel = 0; piece = 0 }

-- the index that the code reads
read-within : (joins : List Join) (n i : ℕ) → All (λ k. k < n) (joined_pieces joins) → i < length joins
    → (i < length (joined_pieces joins)) × (get_or (joined_pieces joins) i 0 ≡ (get_or joins i none).piece) × ((get_or joins i none).piece < n)
read-within joins n i h lt =
    let within : i < length (joined_pieces joins) = omega (arith, length-map joins (λ (j : Join). j.piece)) in
    let is : get_or (joined_pieces joins) i 0 ≡ (get_or joins i none).piece = get_or-map (λ (j : Join). j.piece) joins i none 0 lt in
    (within, is, rw is at (h i 0 within))

pub weight-sum-requires : goal.weight-sum-requires
unfolding none
weight-sum-requires c = (read-within c.args.joins.now (length c.args.release.now.pieces) c.loop-join.join-index c.requires.within c.loop-join-test.true).2

pub loop-join-preserved : goal.loop-join-preserved
unfolding none
loop-join-preserved c =
    let joins = c.args.joins.now in
    let i = c.loop-join.join-index in
    let sum = to_z w128 c.loop-join.sum-bits in
    let index = (get_or joins i none).piece in
    let read = read-within joins (length c.args.release.now.pieces) i c.requires.within c.loop-join-test.true in
    let item = item-within c.args.release.now.pieces index read.2 in
    let few : i < 200000 = omega (arith, c.loop-join-test.true, c.requires.few) in
    let more = sum-more sum c.weight-sum.result i c.loop-join.invariant.1 c.weight-sum.ensures.small few in
    rw more.0 (
      weighted-added c.args.release.now (joined_pieces joins) i index item.0 sum c.weight-sum.result _
          read.0 (sym read.1 ∙ get_or_default (joined_pieces joins) i 0 index read.0) item.1
          (c.weight-sum.ensures.value item.0 item.1) c.loop-join.invariant.0,
      more.1,
    )

pub returns : goal.returns
returns c =
    let past : length (joined_pieces c.args.joins.now) ≤ c.loop-join.join-index =
    omega (arith, c.loop-join-test.false, length-map c.args.joins.now (λ (j : Join). j.piece)) in
    weighted-end c.args.release.now (joined_pieces c.args.joins.now) c.loop-join.join-index _ _ past c.loop-join.invariant.0

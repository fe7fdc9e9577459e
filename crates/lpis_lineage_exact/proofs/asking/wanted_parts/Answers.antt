use Rattle.std.proofs.Common.{◌≡◌, ℕ, List, Option, flat_map, subst}
use Rattle.std.specs.List.{AllZip}
use Rattle.std.proofs.lemmas.Result.{IfErr-weaker, IfOk-weaker}
use Rattle.lpis_lineage.specs.Lineage.{last_live}
use Rattle.lpis_lineage.specs.declared.exact.Group.{Group}
use Rattle.lpis_release.specs.Release.{parcel_ids}
use Rattle.lpis_rings.specs.declared.polygon.Member.{Member}
use Rattle.lpis_lineage_exact.specs.Asking.{AsksFor, IsUnkept, IsWanted, old_ids}
use Rattle.lpis_lineage_exact.specs.Shapes.{shape_named}
use Rattle.lpis_lineage_exact.specs.declared.asking.AskFault.TheVariants.{NotKept}
use Rattle.lpis_lineage_exact.specs.private.Lacking.{IsFirstLacking}
use Rattle.lpis_lineage_exact.proofs.AskingLemmas.{first-is-unkept, own-rows, parts-are-asked}
use Rattle.lpis_lineage_exact.proofs.ShapeLemmas.{named-alike}
use Rattle.lpis_lineage_exact.proofs.asking.wanted_parts.Goals as goal

pub returns-clause-asks : goal.returns-clause-asks
returns-clause-asks c = λ h parcels rows to shapes.
    let kept = shape_named c.args.kept.now in
    let are = c.in_ok-groups.ensures (last_live h) (parcel_ids parcels) (own-rows (last_live h) (parcel_ids parcels) rows c.args.change.now to.change) in
    IfOk-weaker c.parts_of.result (λ v. AllZip (IsWanted kept (shape_named c.args.new.now)) c.as_slice.result.now v.items) (λ v. (gs : List Group) × AsksFor h c.args.kept.now parcels rows gs v.items)
    (λ v z. parts-are-asked h c.args.kept.now parcels rows c.args.change.now c.in_ok-groups.groups.items v.items to are
    (subst (λ (new : List ℕ → Option (List Member)). AllZip (IsWanted kept new) c.in_ok-groups.groups.items v.items) (named-alike parcels c.args.new.now shapes)
    (subst (λ (gs : List Group). AllZip (IsWanted kept (shape_named c.args.new.now)) gs v.items) c.as_slice.ensures.value z))) c.parts_of.ensures.parts

pub returns-clause-unkept : goal.returns-clause-unkept
returns-clause-unkept c = λ h parcels rows to.
    let kept = c.args.kept.now in
    let gs = c.in_ok-groups.groups.items in
    let are = c.in_ok-groups.ensures (last_live h) (parcel_ids parcels) (own-rows (last_live h) (parcel_ids parcels) rows c.args.change.now to.change) in
    IfErr-weaker c.parts_of.result (IsFirstLacking kept (flat_map old_ids gs)) (λ fault. (id : List ℕ) → fault ≡ NotKept id → IsUnkept h kept parcels rows id)
    (λ fault. first-is-unkept h kept parcels rows c.args.change.now gs fault to are) (rw c.as_slice.ensures.value at c.parts_of.ensures.unkept)

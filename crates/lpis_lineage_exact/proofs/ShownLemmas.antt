-- What is shown of a sound map has exact lineage.
use Rattle.std.proofs.Common.{List}
use Rattle.std.proofs.lemmas.List.Sorted.{IsPermutation-refl}
use Rattle.lpis_cert.specs.declared.part.ExactBlock.{ExactBlock}
use Rattle.lpis_edge_sums.specs.MakingLaws.{MergedMakesUp, SplitMakesUp}
use Rattle.lpis_lineage.specs.declared.row.Entry.{Entry}
use Rattle.lpis_lineage.specs.declared.row.Row.{Row}
use Rattle.lpis_release.specs.Release.{Contents}
use Rattle.lpis_register_rows.specs.Shapes.{Shape}
use Rattle.lpis_checker.specs.SoundMap.{IsSoundMap}
use Rattle.lpis_checker.proofs.Shared.{shown_turns}
use Rattle.lpis_lineage_exact.specs.Asking.{IsShown, kinds_from}
use Rattle.lpis_lineage_exact.specs.ExactLineage.{IsExactLineage}
use Rattle.lpis_lineage_exact.specs.Shapes.{shape_named, shapes_in}
use Rattle.lpis_lineage_exact.proofs.LineageLemmas.{groups_show}
use Rattle.lpis_lineage_exact.proofs.ShapeLemmas.{share_nothing, turn_once}

-- a sound map has exact lineage where the blocks show what its marked rows ask for
pub shown-is-exact : SplitMakesUp → MergedMakesUp → (h : List Entry) (kept : List Shape) (r : Contents) (blocks : List ExactBlock) (rows : List Row) → IsSoundMap r
    → IsShown h kept r.parcels blocks rows
    → IsExactLineage (kinds_from h r.parcels rows) rows (shape_named kept) (shape_named (shapes_in r.parcels))
shown-is-exact split_makes_up merged_makes_up h kept r blocks rows sound s =
    groups_show split_makes_up merged_makes_up (kinds_from h r.parcels rows) rows s.gs s.xs (shape_named kept) (shape_named (shapes_in r.parcels))
    s.asks.marked.groups s.asks.parts (shown_turns blocks s.xs s.shown)
    (turn_once r (shapes_in r.parcels) sound (IsPermutation-refl (shapes_in r.parcels))) (share_nothing r (shapes_in r.parcels) sound (IsPermutation-refl (shapes_in r.parcels)))

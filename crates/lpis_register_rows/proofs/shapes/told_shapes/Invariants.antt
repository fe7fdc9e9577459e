use Rattle.std.proofs.Common.{◌≡◌, ◌++◌, List, length}
use Rattle.std.specs.List.{AllByRecursion, AllZip}
use Rattle.std.specs.Vec.Iter.{into_iter_items, into_iter_len}
use Rattle.lpis_register_rows.specs.Content.{StoredText}
use Rattle.lpis_register_rows.specs.Shapes.{IsTextOfShape}
use Rattle.lpis_register_rows.specs.private.Known.{HasId}
use Rattle.lpis_register_rows.proofs.shapes.told_shapes.Given as goal

abbrev pub invariant-loop-text : goal.invariant-loop-text
invariant-loop-text l = ((read : List StoredText) × (read ++ into_iter_items l.text-iterator ≡ into_iter_items l.initial.text-iterator) × AllZip IsTextOfShape read l.shapes.items)
    × AllByRecursion HasId l.shapes.items
    × (into_iter_len l.text-iterator ≡ length (into_iter_items l.text-iterator))

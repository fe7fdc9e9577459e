use Rattle.std.proofs.Common.{◌≡◌, ◌++◌, [], drop}
use Rattle.lpis_tables.proofs.Common.{fields_of, flat, picked}
use Rattle.csv.specs.Records.{partial_of}
use Rattle.lpis_tables.proofs.reader.picked_row.Given as goal

abbrev pub invariant-loop-place : goal.invariant-loop-place
invariant-loop-place l = (fields_of l.wanted ++ flat (picked (drop l.place-index l.places) (fields_of l.row)) ≡ flat (picked l.places (fields_of l.row)))
    × (partial_of l.wanted ≡ [])

use Rattle.std.proofs.Common.{◌≡◌, ◌++◌, drop, is_some, map}
use Rattle.lpis_tables.proofs.reader.TableReader.columns_there.Given as goal

abbrev pub invariant-loop-place : goal.invariant-loop-place
invariant-loop-place l = l.has.items ++ map is_some (drop l.place-index l.place-items) ≡ map is_some l.place-items

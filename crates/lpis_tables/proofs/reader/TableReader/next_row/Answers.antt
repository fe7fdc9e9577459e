use Rattle.std.proofs.Common.{◌<◌, arith, refl}
use Rattle.lpis_tables.proofs.Common.{fields_of}
use Rattle.lpis_tables.proofs.ReadingLemmas.{next-end, next-many, next-odd, next-row}
use Rattle.lpis_tables.proofs.reader.TableReader.next_row.Goals as goal

pub returns-in-Ok-End : goal.returns-in-Ok-End
returns-in-Ok-End c =
    let moves = rw c.in-Ok-End.field-0-is at c.in-Ok-End.ensures in
    let view = rw c.in-None.is at c.self.view_is in
    rw c.in-None.is (next-end c.args.self.now c.self.inside.table c.self.inside.records.width c.next.new.self.width c.self.inside.number c.self.inside.places.items _
    c.self.inside.records.records c.next.new.self.records view moves.0 moves.1)

pub returns-in-Ok-Uneven : goal.returns-in-Ok-Uneven
returns-in-Ok-Uneven c =
    let (odd, more, left, differs) = rw c.in-Ok-Uneven.field-0-is at c.in-Ok-Uneven.ensures in
    let view = rw c.in-None.is at c.self.view_is in
    rw (c.stop_rows.ensures.stopped, c.stop_rows.ensures.fault) (
      next-odd c.args.self.now c.self.inside.table c.self.inside.records.width c.self.inside.number c.self.inside.places.items _ odd c.self.inside.records.records more view left differs,
      refl,
      refl,
    )

pub returns-then-self-eq-MOST_ROWS : goal.returns-then-self-eq-MOST_ROWS
returns-then-self-eq-MOST_ROWS c =
    let moves = rw c.in-Ok-Record.field-0-is at c.in-Ok-Record.ensures in
    let view = rw c.in-None.is at c.self.view_is in
    rw (c.stop_rows-then-self-eq-MOST_ROWS.ensures.stopped, c.stop_rows-then-self-eq-MOST_ROWS.ensures.fault) (
      next-many c.args.self.now c.self.inside.table c.self.inside.records.width c.self.inside.number c.self.inside.places.items _ (fields_of c.next.new.row)
          c.self.inside.records.records c.next.new.self.records view moves.0 moves.1 (omega arith),
      refl,
      refl,
    )

pub returns-else-self-eq-MOST_ROWS : goal.returns-else-self-eq-MOST_ROWS
returns-else-self-eq-MOST_ROWS c =
    let moves = rw c.in-Ok-Record.field-0-is at c.in-Ok-Record.ensures in
    let view = rw c.in-None.is at c.self.view_is in
    let few : c.self.inside.number < 200000 = omega (arith, c.self.invariant) in
    rw c.in-None.is (next-row c.args.self.now c.self.inside.table c.self.inside.records.width c.next.new.self.width c.self.inside.number c.self.inside.places.items _
    (fields_of c.next.new.row) c.self.inside.records.records c.next.new.self.records view moves.0 moves.1 moves.2 few)

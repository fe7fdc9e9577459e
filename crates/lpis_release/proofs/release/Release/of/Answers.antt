use Rattle.lpis_release.proofs.release.Release.of.Goals as goal

pub invariant_of-result : goal.invariant_of-result
invariant_of-result c =
    let joins = rw (c.deref.ensures.value, c.into_rows-pieces.ensures.rows) at c.in_ok-joins.ensures in
    let rows = c.into_rows-pieces.ensures in
    rw rows.rows (record { joined = joins.none; distinct = rows.distinct; few = rows.few; indexed = joins.joins })

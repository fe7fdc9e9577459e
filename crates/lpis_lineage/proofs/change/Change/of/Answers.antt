use Rattle.lpis_lineage.proofs.change.Change.of.Goals as goal

pub returns : goal.returns
returns c = record {
  kinds_are = λ id. c.in_ok-kinds.ensures c.args.rows.now c.in_ok-fates.ensures id;
  dropped_are = c.in_ok-dropped.ensures.list;
  rows_are = c.in_ok-rows.ensures;
}

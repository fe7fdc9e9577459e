use Rattle.std.proofs.Common.{false, refl}
use Rattle.lpis_lineage_exact.specs.Shapes.{shape_named}
use Rattle.lpis_lineage_exact.proofs.AskingLemmas.{wanted-by}
use Rattle.lpis_lineage_exact.proofs.asking.split_part.Goals as goal

pub returns-clause-part : goal.returns-clause-part
returns-clause-part c = wanted-by (shape_named c.args.kept.now) (shape_named c.args.new.now) c.args.group.now
    (record { merge = false; id = c.in_ok-id.id; whole = c.in_ok-whole.whole; parts = c.new.result }) false c.as_slice.result.now c.in_ok-parts.parts.items c.requires.split refl
    c.in_ok-id.ensures c.as_slice.ensures c.new.ensures c.in_ok-whole.ensures.shape c.in_ok-parts.ensures

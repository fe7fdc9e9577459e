use Rattle.lpis_tables.proofs.IdLemmas.{id-utf8}
use Rattle.lpis_tables.proofs.id.Id.as_str.Goals as goal

pub unreachable-requires : goal.unreachable-requires
unreachable-requires c = ((rw c.in-Err.is at c.from_utf8.ensures.cases).0) (id-utf8 c.as_bytes.result.now (rw c.as_bytes.ensures.bytes c.as_bytes.ensures.id))

use Rattle.std.proofs.Common.{refl}
use Rattle.lpis_tables.proofs.IdLemmas.{characters-kept}
use Rattle.lpis_tables.proofs.id.padded.Goals as goal

pub returns : goal.returns
returns c = rw c.copy_from_slice.ensures.after (characters-kept c.args.bytes.now _ c.requires refl)

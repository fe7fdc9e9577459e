use Rattle.std.proofs.Common.{refl}
use Rattle.lpis_register_file.proofs.open_file.Goals as goal

pub returns-in-Err-adopt : goal.returns-in-Err-adopt
returns-in-Err-adopt g c = rw c.in-Ok.is (c.in-Err-adopt.conn, refl, c.in-Err-adopt.ensures.unopened, c.in-Err-adopt.ensures.cause)

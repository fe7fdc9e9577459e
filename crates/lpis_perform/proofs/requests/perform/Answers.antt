use Rattle.std.proofs.Common.{refl}
use Rattle.lpis_perform.proofs.requests.perform.Goals as goal

pub returns-in-InRegister : goal.returns-in-InRegister
returns-in-InRegister g c = rw c.in-InRegister.is (c.in_register.ensures, refl)

use Rattle.lpis_run.proofs.failure.print_failure.Goals as goal

pub returns-in_ok-write-in-Write : goal.returns-in_ok-write-in-Write
returns-in_ok-write-in-Write g c = rw (c.in-Write.is, ← c.as_str-in-Write.ensures) c.in_ok-write-in-Write.ensures.bytes

pub returns-in_ok-write_all-in-Store : goal.returns-in_ok-write_all-in-Store
returns-in_ok-write_all-in-Store g c = rw c.in-Store.is c.in_ok-write_all-in-Store.ensures.bytes

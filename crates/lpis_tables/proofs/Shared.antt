-- The lemmas that the crates above cite, passed on from one place. Declares nothing.
pub use Rattle.lpis_tables.proofs.RowLemmas.{IsRead, column-fault, column-passed, fault-retold, rows-end, rows-fault, rows-start, rows-step, rows-stop, table-start}
pub use Rattle.lpis_wkt.proofs.Shared.{value-ge}

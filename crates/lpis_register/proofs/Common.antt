-- The names that most proofs of this crate cite, passed on from one place. Declares nothing.
pub use Rattle.lpis_lineage.specs.declared.row.Entry.{Entry}
pub use Rattle.lpis_register_rows.specs.Content.{Content}
pub use Rattle.lpis_register_rows.specs.Shapes.{Shape}
pub use Rattle.lpis_register_rows.specs.Histories.{TablesHave}
pub use Rattle.lpis_register_rows.specs.declared.version.Version.{Version}
pub use Rattle.lpis_register_rows.specs.declared.version.Version.TheVariants.{First, Third}
pub use Rattle.lpis_register.specs.Faults.{IsFailure}
pub use Rattle.lpis_register.specs.declared.fault.PublishFault.{PublishFault}
pub use Rattle.sqlite.proofs.StateLemmas.{survives_weaker}
pub use Rattle.sqlite.specs.Held.{state}
pub use Rattle.sqlite.specs.State.{HasCleanDisk, State, Survives}
pub use Rattle.sqlite.specs.Tree.{Trees}

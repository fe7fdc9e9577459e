pub mod Calls
pub use Rattle.lpis_run_check.specs.AreaAnswer
pub use Rattle.lpis_run.specs.CheckAnswer
pub use Rattle.lpis_run_check.specs.CutAnswer
pub use Rattle.lpis_run.specs.Outputs
pub use Rattle.lpis_run.specs.Status

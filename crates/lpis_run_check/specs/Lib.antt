pub mod AreaAnswer
pub mod CheckRun
pub mod CutAnswer

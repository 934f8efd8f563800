pub mod SavedRuns
pub mod ReopenedRuns

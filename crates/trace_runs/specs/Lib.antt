pub mod LineRuns

pub mod Evidence
pub mod Laws
pub mod Marked
pub mod ScrubEnds
pub mod SyncEnds

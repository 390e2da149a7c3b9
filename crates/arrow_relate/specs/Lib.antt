pub mod Chunked
pub mod Examples
pub mod Finished
pub mod LentRows
pub mod Related
pub mod Same
pub mod Words

pub mod InputProgress
pub mod OutputProgress
pub mod WrittenLemmas

pub mod FixedLemmas
pub mod LengthLemmas
pub mod PartsLemmas
pub mod PieceLemmas
pub mod RowLemmas
pub mod RunLemmas
pub mod ScalarLemmas
pub mod StoredLemmas

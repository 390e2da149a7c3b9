pub mod Answers
pub mod DenseUnions
pub mod Examples
pub mod Spans
pub mod SparseUnions
pub mod Taken

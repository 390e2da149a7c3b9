pub mod Can
pub mod Compared
pub mod Examples
pub mod Filled
pub mod Kinds
pub mod Laws

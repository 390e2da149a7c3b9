pub mod Batch
pub mod Coalesced
pub mod Order
pub mod Picked
pub mod Refused
pub mod Stored
pub mod Texts

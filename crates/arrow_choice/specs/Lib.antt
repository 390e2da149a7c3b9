pub mod Choice
pub mod Examples
pub mod Keys
pub mod Refusals
pub mod Runs
pub mod Sides

pub mod Input
pub mod Status
pub mod Written

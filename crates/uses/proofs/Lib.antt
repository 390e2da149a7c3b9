pub mod Common
pub mod ApartLemmas
pub mod ChoiceLemmas
pub mod MergeLemmas
pub mod TextLemmas

pub mod FitsLemmas
pub mod IdLemmas
pub mod RowsLemmas
pub mod SelectLemmas
pub mod SlotLemmas
pub mod TypeLemmas

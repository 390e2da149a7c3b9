pub mod AnswerLemmas
pub mod KindLemmas
pub mod PairLemmas
pub mod RelationLemmas
pub mod ThroughLemmas
pub mod TypeLemmas

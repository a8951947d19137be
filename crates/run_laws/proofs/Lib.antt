pub mod WorkLemmas
pub mod RunLemmas
pub mod KindLemmas

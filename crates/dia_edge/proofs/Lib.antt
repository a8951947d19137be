pub mod CountLemmas
pub mod FileLemmas
pub mod ShelfLemmas
pub mod SinkLemmas
pub mod SlotLemmas
pub mod Results

pub mod ReadLemmas
pub mod ScriptLemmas
pub mod AskLemmas
pub mod EndLemmas
pub mod UnreadLemmas
pub mod RanLemmas

pub mod WordLemmas
pub mod DigitLemmas
pub mod KindLemmas
pub mod ReadLemmas
pub mod FaultLemmas
pub mod ValueLemmas
pub mod SpellingLemmas
pub mod DivisorLemmas

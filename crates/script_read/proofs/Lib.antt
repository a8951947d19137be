pub mod Printables
pub mod PlaceLemmas
pub mod Counting
pub mod LineLemmas
pub mod AcceptedLemmas
pub mod FindingLemmas
pub mod WordLemmas
pub mod SoundLemmas

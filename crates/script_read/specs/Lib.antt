pub mod Statements
pub mod Sentences
pub mod Knowing
pub mod Accepting
pub mod Answering

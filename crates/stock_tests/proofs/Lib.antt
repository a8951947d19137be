pub mod Rounds
pub mod Posting
pub mod WorkedFiles

pub mod Rounds
pub mod Posted
pub mod Stocked
pub mod WorkedFiles

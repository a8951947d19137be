pub mod Views
pub mod Lines
pub mod Tables
pub mod Origins
pub mod Items
pub mod Drafts
pub mod Marks

pub mod ShareLaws

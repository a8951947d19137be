pub mod Dealings

mod Ranks
mod Ordered

pub mod Low
pub mod Order
pub mod Pairs
pub mod PairsLemmas
pub mod Printing

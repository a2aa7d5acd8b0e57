pub mod Refusals
pub mod Rows
pub mod Meaning
pub mod Memory
pub mod Opening
pub mod Laws

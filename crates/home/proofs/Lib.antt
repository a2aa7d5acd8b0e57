pub mod Rows
pub mod Calls
pub mod Opening
pub mod Laws
pub mod Holds
pub mod Tables
pub mod TwoHomes

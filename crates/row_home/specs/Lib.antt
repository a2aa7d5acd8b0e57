pub mod Meanings
pub mod Opening

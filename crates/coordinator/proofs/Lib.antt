pub mod Openings
pub mod Renewals
pub mod Sheets

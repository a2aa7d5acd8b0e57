pub mod Events
pub mod Transactions
pub mod Serial
pub mod Laws
pub mod Cases

pub mod Bytes
pub mod ByteTables
pub mod ByteOpening

pub mod Lending
pub mod Rows

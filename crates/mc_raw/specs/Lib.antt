pub mod Raw
pub mod RowOrder
pub mod RowTables
pub mod Drops

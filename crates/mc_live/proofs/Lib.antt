pub mod HeldFacts
pub mod OnOk
pub mod PruneFacts
pub mod RowFacts
pub mod Shows
pub mod TakeFacts
pub mod Tops

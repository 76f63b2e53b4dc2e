pub mod Places
pub mod Times
pub mod Linked
pub mod Heights
pub mod Rows
pub mod Told

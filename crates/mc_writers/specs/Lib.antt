pub mod Crews
pub mod Gathers
pub mod Tooks
pub mod Writers

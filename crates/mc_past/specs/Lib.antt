pub mod Looks
pub mod Passings
pub mod Past
pub mod Pasts
pub mod Tellings
pub mod Walks

pub mod Car
pub mod CarRead
pub mod Places
pub mod Steps

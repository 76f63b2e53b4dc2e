pub mod Visits
pub mod Walks

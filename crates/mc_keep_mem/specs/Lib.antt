pub mod Desks
pub mod Faults
pub mod Layouts
pub mod Plan
pub use Rattle.mc_tables.specs.Fits

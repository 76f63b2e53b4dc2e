pub mod Parts
pub mod Fits
pub mod Shown
pub mod Views

pub mod DeskCounts

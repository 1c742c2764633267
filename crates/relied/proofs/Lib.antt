pub mod Among
pub mod Lines
pub mod Reading
pub mod Gate
pub mod Running
pub mod Within
pub mod Same

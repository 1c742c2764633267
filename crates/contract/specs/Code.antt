pub mod Concluded

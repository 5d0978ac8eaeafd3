pub mod Numbered

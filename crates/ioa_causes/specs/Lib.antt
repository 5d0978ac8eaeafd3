pub mod Entries
pub mod Typing
pub mod Words
pub mod Worded
pub mod Composing

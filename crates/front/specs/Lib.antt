pub mod Numbers
pub mod FirstLine
pub mod Lines
pub mod Answers

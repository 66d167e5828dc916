pub mod Forms
pub mod Records
pub mod Answers

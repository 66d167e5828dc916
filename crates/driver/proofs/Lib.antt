pub mod New
pub mod Streaming

pub mod Causes
pub mod Streams
pub mod MemoryStreams
pub mod StdStreams
pub mod Sent
pub mod Numbers
pub mod Laws

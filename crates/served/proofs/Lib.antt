-- Demand 2 as a host sees it, and the lemmas that it stands on.
pub mod DrCalls
pub mod Serving
pub mod WriterBytes
pub mod ReaderBytes
pub mod Served

-- The language of a bench script: its bytes, words and lines, and what a line asks for.
pub mod Glyphs
pub mod Words
pub mod Lines
pub mod Requests

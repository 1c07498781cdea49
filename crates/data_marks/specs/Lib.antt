-- Request f.
pub mod ShownMarks

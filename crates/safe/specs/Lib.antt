-- Demand 1: the calls of the controller, the picture reader, the viewer.
pub mod Demand1
pub mod Pictures
pub mod Viewer

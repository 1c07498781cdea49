-- The controller's calls, document 01 from "The ring of cells" to "Registers and commands". What it does in a byte time over
-- one cell is the definition of the crate `act`; what that does to its parts is that of the crates `registers`,
-- `accepting` and `effects`.
pub mod Machines
pub mod Reads
pub mod Loads
pub mod Turns
pub mod Rows
pub mod Counts
pub mod Stretches
pub mod Transfers

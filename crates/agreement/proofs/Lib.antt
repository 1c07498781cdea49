-- The viewer and the machine agree, and a track on which they do.
pub mod SectorAfter
pub mod Agreement
pub mod SameBytes

-- The viewer and the machine agree.
pub mod Agreement

-- What was bought, on one page.
pub mod Requests
pub mod Demands

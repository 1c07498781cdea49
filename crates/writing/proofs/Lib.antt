-- What the definition of a written field comes to.
pub mod Laws

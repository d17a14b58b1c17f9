pub mod Naming
pub mod Numbering
pub mod Meaning
pub mod ByNode
pub mod Laws

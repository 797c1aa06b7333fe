pub mod Tests
pub mod Bytes
pub mod Laws
pub mod Acceptance

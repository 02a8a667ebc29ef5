pub mod Refusal
pub mod Fault
pub mod Kind
pub mod Status
pub mod Text
pub mod Table

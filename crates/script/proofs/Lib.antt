pub mod Stages
pub mod Tells
pub mod Chains

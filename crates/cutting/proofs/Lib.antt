pub mod LastByte
pub mod Offers
pub mod Replies
pub mod Shifts
pub mod Walks
pub mod Taken

pub mod Notifications
pub mod Takes
pub mod Responses
pub mod Replies
pub mod Deliveries
pub mod Longest
pub mod Bits
pub mod Sends

pub mod Acting
pub mod Booking

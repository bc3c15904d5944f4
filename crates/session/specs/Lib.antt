pub mod Book
pub mod Ledgers
pub mod CarryingOut
pub mod Laws
pub mod Held
pub mod Working
pub mod Answered
pub mod Logs

pub mod Asking
pub mod Lasting
pub mod Meant
pub mod Processes
pub mod Refusals
pub mod Replying
pub mod Showing
pub mod Slots

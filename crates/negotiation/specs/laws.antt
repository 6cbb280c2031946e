pub mod Dialogs
pub mod OneHearing
pub mod Requests

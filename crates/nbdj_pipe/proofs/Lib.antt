mod Dialogs
mod Steps
mod Causes
mod HeaderWasWanted
mod Checkpoints
mod Sessions
mod Runs
mod Lives

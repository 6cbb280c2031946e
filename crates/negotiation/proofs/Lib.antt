mod Sessions
mod ReadIntoRoom
mod Answering
mod DataFilled
mod Hearing
mod OneDialog
mod Serving
mod AfterHandshake

mod Counts
mod Replies

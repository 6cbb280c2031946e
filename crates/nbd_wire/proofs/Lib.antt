mod UnfinishedPiece
mod DataReadIntoRoom
mod Appends
mod Chunks
mod Decoding
mod ReplyParts
mod Spelling

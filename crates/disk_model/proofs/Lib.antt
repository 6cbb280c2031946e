mod OneEntryMore
mod AnswersOfCalls
mod BytesReplaced
mod Steps
mod Unwinding

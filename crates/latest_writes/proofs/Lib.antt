mod NewerOverOlder
mod RangesGrow
mod Halves
mod BlocksToCopy
mod NextPut
mod RangeOfBlock

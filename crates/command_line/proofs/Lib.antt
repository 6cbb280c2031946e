mod Addresses
mod Builders
mod ValuesOfGetters
mod Intervals
mod Sizes

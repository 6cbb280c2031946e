mod DeviceAfterServing
mod Sessions

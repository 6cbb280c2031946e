mod MapAfterArea
mod BlocksLeftToCopy
mod NextCopy
mod RememberedTouches

mod Bodies
mod Heads
mod RefusalHandedOn
mod CrashWhileAppending

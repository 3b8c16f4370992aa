mod Loading
mod Endings
mod Spelled
mod Examined
mod Fates
mod Reliable
mod SomeOutcome

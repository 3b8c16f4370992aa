pub mod Sizes
mod Subs

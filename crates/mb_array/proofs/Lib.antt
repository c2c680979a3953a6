mod Changes
mod Shrinking
mod Known
mod Doing
mod Stepping
mod Lengths
mod Listing
mod Tried

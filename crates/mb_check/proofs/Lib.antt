mod Ascending
mod Orders
mod Verdicts

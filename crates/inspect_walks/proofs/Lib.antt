mod Searching
mod Lists
mod Labels
mod Around
mod RowLemmas
mod Ordered
mod Steps
pub mod Law
mod Gathered
mod Found

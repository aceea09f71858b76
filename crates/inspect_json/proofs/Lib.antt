pub mod Fits
mod OneLine
pub mod Fit
pub mod NoFloats
mod Named
pub mod ReadBack
pub mod SameSaid
mod WalksBack
pub mod ReasonsBack

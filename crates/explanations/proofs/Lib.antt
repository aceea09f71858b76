mod Counts
mod Cuts
mod Fronts
mod Leading
mod Lines
mod Plain
mod Points
mod Scans

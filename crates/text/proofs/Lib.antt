mod First
mod Magnitudes
mod Signs

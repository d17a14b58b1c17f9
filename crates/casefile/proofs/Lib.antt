mod Keys
mod Rows

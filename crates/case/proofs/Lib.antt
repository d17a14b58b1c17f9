mod Places
mod Prefixes

mod Keeping
mod Places
mod States

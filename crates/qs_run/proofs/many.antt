mod Comings
mod Refusing
mod Tallying

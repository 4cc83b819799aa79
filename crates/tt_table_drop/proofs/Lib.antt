mod Entries
mod Lines
mod Reading
mod Sifted

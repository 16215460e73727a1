-- What the contracts of `diagrams` cite: stones text, and what is refused on the way to it.
pub mod Stones

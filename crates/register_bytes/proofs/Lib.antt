-- Lemmas on the bytes of registers.
mod Planes
mod Adding
mod Writing
mod Reading

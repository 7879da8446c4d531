-- What the contracts of sources, sinks and files speak of.
pub mod Devices
pub mod States
pub mod Views
pub mod Shelves

-- What legality says of the registers of an instruction, class by class.
pub mod Facts
pub mod Rules

-- What tests find is what a look-up finds, and no word fits two rows that are told apart.
pub mod Walk
pub mod Apart

-- Lemmas on the layout of an image, on its pages and on the order of its faults.
pub mod Counting
pub mod Pages
pub mod HeaderLemmas
pub mod LayoutLemmas
pub mod FaultOrder

-- The vector registers that a chain holds.
use Rattle.std.specs.Prelude.{ℕ, List}
use Rattle.cam_chain.specs.ChainValue.{ChainValue, slices_of}
use Rattle.cam_chain.specs.Views.{registers_of}

-- the registers of a chain
abbrev pub vectors_of : ChainValue → List (List ℕ)
vectors_of chain = registers_of (slices_of chain)

-- Slices by their parts.
use Rattle.std.proofs.Common.{◌≡◌, ℕ, refl}
use Rattle.bit_rows.specs.Slices.{Slices}
use Rattle.cam_chain.specs.ChainValue.{ChainValue, slices_of}

-- slices with the same parts are the same
pub same_slices : (a b : Slices) → a.columns ≡ b.columns → ((s r c : ℕ) → a.bit s r c ≡ b.bit s r c) → ((s c : ℕ) → a.tag s c ≡ b.tag s c) → a.num ≡ b.num → a ≡ b
same_slices a b p q r n = λ i. record { columns = p i; bit = λ s w c. q s w c i; tag = λ s c. r s c i; num = n i }

-- the slices of a chain have its columns
pub columns-slices_of : (v : ChainValue) → (slices_of v).columns ≡ v.columns
unfolding slices_of
columns-slices_of v = refl

-- the control number of a chain's slices is 0
pub num-slices_of : (v : ChainValue) → (slices_of v).num ≡ 0
unfolding slices_of
num-slices_of v = refl

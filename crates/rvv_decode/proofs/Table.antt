-- What the decoder finds is what the table says, and no word fits two rows.
use Rattle.std.proofs.Common.{◌≡◌, ℕ, refl, sym, ap}
use Rattle.std.proofs.lemmas.Nat.{and_comm}
use Rattle.word_rows.specs.Rows.{NoTwoFit}
use Rattle.word_rows.proofs.Walk.{walk-is}
use Rattle.word_rows.proofs.Apart.{no_two_fit}
use Rattle.rvv_decode.specs.Layouts.{instruction_of}
use Rattle.rvv_decode.specs.OpiRows.{opi_rows}
use Rattle.rvv_decode.specs.OpmRows.{opm_rows}
use Rattle.rvv_decode.specs.ConfigRows.{config_rows}
use Rattle.rvv_decode.specs.MemoryRows.{load_rows, store_rows}
use Rattle.rvv_decode.specs.Rows.{rows, means}
use Rattle.rvv_decode.specs.FieldTests.{tests, row_found, op_v_found, opi_found, opi_low_found, opi_high_found, opm_found, opm_low_found, opm_high_found, vwxunary0_found, vxunary0_found, vmunary0_found, config_found, load_found, load_mode_found, store_found, store_mode_found}

pub means_found : (w : ℕ) → means w ≡ instruction_of (row_found w) w
unfolding means row_found op_v_found opi_found opi_low_found opi_high_found opm_found opm_low_found opm_high_found vwxunary0_found vxunary0_found vmunary0_found config_found load_found load_mode_found store_found store_mode_found rows opi_rows opm_rows config_rows load_rows store_rows
means_found w = ap (λ o. instruction_of o w) (sym (walk-is tests 0 0 rows w (and_comm w 0) refl))

pub rows_apart : NoTwoFit rows
unfolding rows opi_rows opm_rows config_rows load_rows store_rows
rows_apart = no_two_fit rows refl

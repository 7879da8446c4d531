-- What a valid configuration has.
use Rattle.std.proofs.Common.{◌≡◌, ℕ, ◌*◌, ◌<◌, ◌≤◌, arith}
use Rattle.std.specs.Prelude.{IsTrue}
use Rattle.std.proofs.lemmas.Bool.{and_parts}
use Rattle.vtype_cfg.specs.declared.configuration.Cfg.{Cfg}
use Rattle.vtype_cfg.specs.Settings.{is_valid, is_vill_or_supported, is_legal_vlen}
use Rattle.vtype_cfg.proofs.Lengths.{vlen_from}
use Rattle.vtype_cfg.proofs.Supported.{vlen_bounded}

pub valid-setting : (c : Cfg) → IsTrue (is_valid c) → IsTrue (is_vill_or_supported c.vtype)
unfolding is_valid
valid-setting c valid = (and_parts _ _ (and_parts _ _ (and_parts _ _ (and_parts _ _ valid).0).0).0).1

pub valid-length : (c : Cfg) → IsTrue (is_valid c) → IsTrue (is_legal_vlen c.vlen)
unfolding is_valid
valid-length c valid = (and_parts _ _ (and_parts _ _ (and_parts _ _ (and_parts _ _ valid).0).0).0).0

pub some-columns : (c : Cfg) (columns : ℕ) → IsTrue (is_valid c) → c.vlen ≡ 32 * columns → 0 < columns
some-columns c columns valid long = let least : 32 ≤ c.vlen = vlen_from c.vlen (valid-length c valid) in omega arith

pub length-bounded : (c : Cfg) → IsTrue (is_valid c) → c.vlen ≤ 65536
length-bounded c valid = vlen_bounded c.vlen (valid-length c valid)

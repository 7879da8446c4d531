-- What a valid configuration has.
use Rattle.std.proofs.Common.{◌≤◌, IsTrue}
use Rattle.std.proofs.lemmas.Bool.{and_parts, leb-true}
use Rattle.vtype_cfg.specs.declared.configuration.Cfg.{Cfg}
use Rattle.vtype_cfg.specs.Settings.{is_legal_vlen, is_vill_or_supported, is_valid, vlmax}

pub record Held (c : Cfg) : Type 0 where
  pub vlen : IsTrue (is_legal_vlen c.vlen)
  pub setting : IsTrue (is_vill_or_supported c.vtype)
  pub length : c.vl ≤ vlmax c.vtype c.vlen

pub held : (c : Cfg) → IsTrue (is_valid c) → Held c
unfolding is_valid
held c valid =
    let a = and_parts _ _ valid in
    let b = and_parts _ _ a.0 in
    let d = and_parts _ _ b.0 in
    let e = and_parts _ _ d.0 in
    record { vlen = e.0; setting = e.1; length = leb-true _ _ d.1 }

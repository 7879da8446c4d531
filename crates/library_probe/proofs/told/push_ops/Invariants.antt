use Rattle.std.proofs.Common.{◌≡◌, ◌++◌, drop, string_bytes}
use Rattle.library_probe.specs.Texts.{ops_text}
use Rattle.library_probe.proofs.told.push_ops.Given as goal

-- the operations that are left make the text
abbrev pub invariant-loop-op : goal.invariant-loop-op
invariant-loop-op l = string_bytes l.text ++ ops_text (drop l.op-index l.ops) ≡ string_bytes l.fn.text ++ ops_text l.ops

use Rattle.std.proofs.Common.{◌≡◌, refl, sym, ◌∙◌, ap}
use Rattle.cam_chain.specs.ChainValue.{slices_of}
use Rattle.cam_chain.specs.Views.{registers_of}
use Rattle.rvv_meaning.specs.States.{Core, cfg_at}
use Rattle.machine.specs.Moments.{Held}
use Rattle.machine.proofs.Accessed.{cfg-left, load-ended, load-registers, rest-of}
use Rattle.machine.proofs.Carried.{carries-load}
use Rattle.machine.proofs.Following.{registers-follow}
use Rattle.machine.proofs.parts.Machine.load.Goals as goal

pub end_access-requires-clause-most : goal.end_access-requires-clause-most
end_access-requires-clause-most c =
    let core : Core = record { regs = c.self.inside.regs; pc = c.self.inside.pc; csrs = c.self.inside.csrs; mem = c.self.inside.mem; vectors = registers_of (slices_of c.self.inside.chain); mode = c.self.inside.mode; policy = c.self.inside.policy } in
    let is : c.cfg-cfg.result ≡ cfg_at core = rw (c.cfg-cfg.ensures.is, ← c.self.view_is) refl in
    (cfg-left c.args.i.now core c.cfg-cfg.result c.load-end.new.cfg c.get-base.result c.get-stride.result core.vectors core.mem.pages is c.load-end.ensures.cfg c.load-end.ensures.valid).0

pub end_access-requires-clause-starts : goal.end_access-requires-clause-starts
end_access-requires-clause-starts c =
    let core : Core = record { regs = c.self.inside.regs; pc = c.self.inside.pc; csrs = c.self.inside.csrs; mem = c.self.inside.mem; vectors = registers_of (slices_of c.self.inside.chain); mode = c.self.inside.mode; policy = c.self.inside.policy } in
    let is : c.cfg-cfg.result ≡ cfg_at core = rw (c.cfg-cfg.ensures.is, ← c.self.view_is) refl in
    (cfg-left c.args.i.now core c.cfg-cfg.result c.load-end.new.cfg c.get-base.result c.get-stride.result core.vectors core.mem.pages is c.load-end.ensures.cfg c.load-end.ensures.valid).1

pub returns-clause-carries : goal.returns-clause-carries
returns-clause-carries c = λ v.
    let core : Core = record { regs = c.self.inside.regs; pc = c.self.inside.pc; csrs = c.self.inside.csrs; mem = c.self.inside.mem; vectors = registers_of (slices_of c.self.inside.chain); mode = c.self.inside.mode; policy = c.self.inside.policy } in
    let old : Held = record { core = core; chain = c.self.inside.chain; last = c.self.inside.buf.ops; control = c.self.inside.control; live = c.self.inside.live } in
    let new : Held = c.end_access.new.self in
    let is : c.cfg-cfg.result ≡ cfg_at core = rw (c.cfg-cfg.ensures.is, ← c.self.view_is) refl in
    let there = rw (sym c.self.view_is) at c.requires.there in
    let none = rw (sym c.self.view_is) at c.requires.empty in
    let registers = registers_of (slices_of c.load-end.new.chain) in
    let ended = load-ended c.args.i.now core c.cfg-cfg.result c.load-end.new.cfg c.get-base.result c.get-stride.result c.load-end.result is c.get-base.ensures.value c.get-stride.ensures.value c.requires.load registers c.load-end.ensures.cfg c.load-end.ensures.vectors c.load-end.ensures.ok c.load-end.ensures.fault c.load-end.ensures.cause in
    let follow = load-registers c.args.i.now core c.cfg-cfg.result c.load-end.new.cfg c.get-base.result c.get-stride.result c.load-end.result is c.get-base.ensures.value c.get-stride.ensures.value c.requires.load registers c.load-end.ensures.cfg c.load-end.ensures.vectors in
    rw (← c.self.view_is)
    (carries-load old new v c.args.i.now there c.requires.load
    (ap (λ (h : Held). h.core) c.end_access.ensures ∙ ended)
    (ap (λ (h : Held). slices_of h.chain) c.end_access.ensures ∙ registers-follow c.self.inside.chain c.load-end.new.chain c.load-end.ensures.rest ∙ rw follow refl)
    (rest-of old new _ c.load-end.new.chain none c.end_access.ensures)
    (ap (λ (h : Held). h.chain.counts) c.end_access.ensures ∙ c.load-end.ensures.counts))

use Rattle.std.proofs.Common.{◌≡◌, refl, sym, ◌∙◌, ap}
use Rattle.cam_chain.specs.ChainValue.{slices_of}
use Rattle.cam_chain.specs.Views.{registers_of}
use Rattle.rvv_meaning.specs.States.{Core, cfg_at}
use Rattle.machine.specs.Moments.{Held}
use Rattle.machine.proofs.Accessed.{cfg-left, store-ended}
use Rattle.machine.proofs.Carried.{carries-store, emptied}
use Rattle.machine.proofs.parts.Machine.store.Goals as goal

pub end_access-requires-clause-most : goal.end_access-requires-clause-most
end_access-requires-clause-most c =
    let core : Core = record { regs = c.self.inside.regs; pc = c.self.inside.pc; csrs = c.self.inside.csrs; mem = c.self.inside.mem; vectors = registers_of (slices_of c.self.inside.chain); mode = c.self.inside.mode; policy = c.self.inside.policy } in
    let is : c.cfg-cfg.result ≡ cfg_at core = rw (c.cfg-cfg.ensures.is, ← c.self.view_is) refl in
    (cfg-left c.args.i.now core c.cfg-cfg.result c.store-end.new.cfg c.get-base.result c.get-stride.result core.vectors core.mem.pages is c.store-end.ensures.cfg c.store-end.ensures.valid).0

pub end_access-requires-clause-starts : goal.end_access-requires-clause-starts
end_access-requires-clause-starts c =
    let core : Core = record { regs = c.self.inside.regs; pc = c.self.inside.pc; csrs = c.self.inside.csrs; mem = c.self.inside.mem; vectors = registers_of (slices_of c.self.inside.chain); mode = c.self.inside.mode; policy = c.self.inside.policy } in
    let is : c.cfg-cfg.result ≡ cfg_at core = rw (c.cfg-cfg.ensures.is, ← c.self.view_is) refl in
    (cfg-left c.args.i.now core c.cfg-cfg.result c.store-end.new.cfg c.get-base.result c.get-stride.result core.vectors core.mem.pages is c.store-end.ensures.cfg c.store-end.ensures.valid).1

pub returns-clause-carries : goal.returns-clause-carries
returns-clause-carries c = λ v.
    let core : Core = record { regs = c.self.inside.regs; pc = c.self.inside.pc; csrs = c.self.inside.csrs; mem = c.self.inside.mem; vectors = registers_of (slices_of c.self.inside.chain); mode = c.self.inside.mode; policy = c.self.inside.policy } in
    let old : Held = record { core = core; chain = c.self.inside.chain; last = c.self.inside.buf.ops; control = c.self.inside.control; live = c.self.inside.live } in
    let new : Held = c.end_access.new.self in
    let is : c.cfg-cfg.result ≡ cfg_at core = rw (c.cfg-cfg.ensures.is, ← c.self.view_is) refl in
    let there = rw (sym c.self.view_is) at c.requires.there in
    let none = rw (sym c.self.view_is) at c.requires.empty in
    let ended = store-ended c.args.i.now core c.cfg-cfg.result c.store-end.new.cfg c.get-base.result c.get-stride.result c.store-end.result is c.get-base.ensures.value c.get-stride.ensures.value c.requires.store c.store-end.new.mem c.store-end.ensures.cfg c.store-end.ensures.pages c.store-end.ensures.ok c.store-end.ensures.fault c.store-end.ensures.cause in
    rw (← c.self.view_is)
    (carries-store old new v c.args.i.now there c.requires.store
    (emptied old new _ none (c.end_access.ensures ∙ ap (λ (k : Core). record old { core = k }) ended)))

use Rattle.std.proofs.Common.{refl}
use Rattle.cape_top.proofs.BenchLemmas.{workload_exited, workload_ran}
use Rattle.cape_top.proofs.workloads.run_workload.Goals as goal

pub returns : goal.returns
returns c =
    let at = workload_ran c.args.workload c.in_ok-machine.machine c.run.new.self _ (rw c.in_ok-input.ensures refl) c.in_ok-machine.ensures.opens c.in-Ok.ensures.goes c.in-Ok.ensures.live in
    record { reaches = at; exits = workload_exited c.args.workload c.run.new.self c.requires at }

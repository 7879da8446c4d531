use Rattle.work_runs.proofs.Workloads.{workload-exits}
use Rattle.work_runs.proofs.workload_law.Goals as goal

pub returns : goal.returns
returns c = record { law = workload-exits }

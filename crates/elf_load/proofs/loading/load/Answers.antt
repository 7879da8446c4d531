use Rattle.std.proofs.Common.{◌≡◌, List, ℕ, Some, None, Err, Result, ◌∙◌, ap, refl}
use Rattle.std.proofs.lemmas.Result.{err_from_is_err_and}
use Rattle.elf_load.specs.declared.faults.LoadFault.{LoadFault}
use Rattle.elf_load.specs.declared.faults.LoadFault.TheVariants.{NoMemory}
use Rattle.elf_load.specs.declared.loaded.Loaded.{Loaded}
use Rattle.elf_load.specs.Faults.{fault}
use Rattle.elf_load.proofs.FaultOrder.{fault-memory}
use Rattle.elf_load.proofs.loading.load.Goals as goal

-- a fault that was found is not want of memory
found : (image : List ℕ) (f : LoadFault) (r : Result Loaded LoadFault) → fault image ≡ Some f → r ≡ Err f → r ≡ Err NoMemory → fault image ≡ None
found image f r e gives is =
    let same : f ≡ NoMemory = cc in
    absurd (fault-memory image (e ∙ ap (λ g. Some g) same))

pub returns-in_err-plan-clause-memory : goal.returns-in_err-plan-clause-memory
returns-in_err-plan-clause-memory c =
    let p = err_from_is_err_and c.from_residual.result c.from_residual.ensures.1 in
    rw (p.1, p.2) (found c.args.image.now _ _ c.in_err-plan.ensures.refused refl)

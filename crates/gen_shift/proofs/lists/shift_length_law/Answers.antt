use Rattle.gen_shift.proofs.Costs.{shift-few}
use Rattle.gen_shift.proofs.lists.shift_length_law.Goals as goal

pub returns : goal.returns
returns c = shift-few

use Rattle.std.proofs.Common.{false}
use Rattle.std.specs.Prelude.{replicate}
use Rattle.std.proofs.lemmas.List.{length-replicate}
use Rattle.cam_chain.proofs.Fresh.{EachLong-replicate, slices_of-blank}
use Rattle.cam_chain.proofs.chain.Chain.new.Goals as goal

pub invariant_of-result : goal.invariant_of-result
invariant_of-result c = record {
  some_columns = c.requires.some;
  few_columns = c.requires.few;
  row_count = rw c.in_ok-zero_rows.ensures (length-replicate 2048 (replicate c.args.columns false));
  tag_count = rw c.in_ok-zero_rows-2.ensures (length-replicate 32 (replicate c.args.columns false));
  rows_long = rw c.in_ok-zero_rows.ensures (EachLong-replicate c.args.columns 2048);
  tags_long = rw c.in_ok-zero_rows-2.ensures (EachLong-replicate c.args.columns 32);
  scratch_long = rw c.in_ok-new.ensures (length-replicate c.args.columns false);
}

pub returns-clause-slices : goal.returns-clause-slices
returns-clause-slices c = slices_of-blank _ 2048 32 c.in_ok-zero_rows.ensures c.in_ok-zero_rows-2.ensures

-- The texts about what a run took: how many instructions retired, and how many searches, updates and passes they made.
use Rattle.std.specs.Prelude.{ℕ, List, ◌++◌, codes}
use Rattle.std.specs.Fmt.{decimal}
use Rattle.cam_chain.specs.declared.counts.Counts.{Counts}

-- a name with a number
abbrev pub count_line : List ℕ → ℕ → List ℕ
count_line name n = name ++ codes " " ++ decimal n ++ codes "\n"

-- a line for each
unfoldable pub counts_text : ℕ → Counts → List ℕ
counts_text retired n =
    count_line (codes "instructions") retired ++ count_line (codes "searches") n.searches ++ count_line (codes "updates") n.updates ++ count_line (codes "passes") n.passes

-- the end of a line that tells them
abbrev pub counts_end : Counts → List ℕ
counts_end n = codes " searches " ++ decimal n.searches ++ codes " updates " ++ decimal n.updates ++ codes " passes " ++ decimal n.passes ++ codes "\n"

-- the line about the run of a workload: its seed and its size, the code that it exited with, and what it took
unfoldable pub bench_line : (seed size code retired : ℕ) → Counts → List ℕ
bench_line seed size code retired n =
    codes "seed " ++ decimal seed ++ codes " size " ++ decimal size ++ codes " exit " ++ decimal code ++ codes " instructions " ++ decimal retired ++ counts_end n

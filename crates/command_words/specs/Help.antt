-- The lines of the grammar.
use Rattle.std.specs.Prelude.{ℕ, List, ◌++◌, codes}

-- A line for each command, with its operands and its options.
unfoldable pub help_text : List ℕ
help_text =
    codes "run IMAGE [--vlen N] [--steps N] [--agnostic keep|ones] [--state] [--counts] [--work]\n"
    ++ (codes "check IMAGE\n"
    ++ (codes "debug IMAGE [--input FILE] [--vlen N] [--agnostic keep|ones]\n"
    ++ (codes "gen SEED SIZE\n"
    ++ (codes "bench SEED SIZE\n"
    ++ codes "help\n"))))

use Rattle.std.proofs.Common.{◌≡◌, ℕ, ◌+◌, ◌-◌, ◌*◌, ◌/◌, ◌%◌, ◌<◌, ◌≤◌, Bool, min, sym, ◌∙◌, arith}
use Rattle.std.proofs.lemmas.Nat.{div-add-mod', mod_below}
use Rattle.bit_rows.specs.Words.{word_bit}
use Rattle.steer_net.specs.Moves.{bit_in_group}
use Rattle.steer_net.proofs.RunBits.{number_small, run_start, along_first, along_next, along_all, first_row, next_row}
use Rattle.steer_net.proofs.runs.write_along.Goals as goal

pub overflow_cast-start : goal.overflow_cast-start
overflow_cast-start g c =
    let s = g.P.Planes.slices c.args.p.now in
    let h = run_start s c.args.run c.requires.rows c.requires.some in
    let m : c.args.run.start < 4194304 = number_small c.args.run.base s.columns c.args.run.start c.requires.few h in
    omega arith

pub overflow_add-row : goal.overflow_add-row
overflow_add-row g c =
    let s = g.P.Planes.slices c.args.p.now in
    let start = c.args.run.start in
    let n : c.columns-columns.result ≡ s.columns = c.columns-columns.ensures.value in
    let r : c.args.run.base + start / 32 / s.columns < 64 =
    first_row c.args.run.base s.columns start (start / 32 / s.columns) (start / 32 % s.columns) (sym (div-add-mod' (start / 32) s.columns)) (run_start s c.args.run c.requires.rows c.requires.some) in
    rw (c.from.ensures, c.from-subarrays.ensures, n) (omega arith)

pub overflow_add-row-2 : goal.overflow_add-row-2
overflow_add-row-2 g c =
    let s = g.P.Planes.slices c.args.p.now in
    let start = c.args.run.start in
    let n : c.columns-columns.result ≡ s.columns = c.columns-columns.ensures.value in
    let r : c.args.run.base + start / 32 / s.columns < 64 =
    first_row c.args.run.base s.columns start (start / 32 / s.columns) (start / 32 % s.columns) (sym (div-add-mod' (start / 32) s.columns)) (run_start s c.args.run c.requires.rows c.requires.some) in
    rw (c.from.ensures, c.from-subarrays.ensures, n) (omega arith)

pub write_register-requires-clause-row : goal.write_register-requires-clause-row
write_register-requires-clause-row g c some =
    let s = g.P.Planes.slices c.args.p.now in
    let start = c.args.run.start in
    let n : c.columns-columns.result ≡ s.columns = c.columns-columns.ensures.value in
    rw (c.from.ensures, c.from-subarrays.ensures, n)
    (first_row c.args.run.base s.columns start (start / 32 / s.columns) (start / 32 % s.columns) (sym (div-add-mod' (start / 32) s.columns)) (run_start s c.args.run c.requires.rows c.requires.some))

pub write_register-requires-2-clause-row : goal.write_register-requires-2-clause-row
write_register-requires-2-clause-row g c some =
    let s = g.P.Planes.slices c.args.p.now in
    let start = c.args.run.start in
    let from = c.args.run.from in
    let n : c.columns-columns.result ≡ s.columns = c.columns-columns.ensures.value in
    let at : start / 32 % s.columns < s.columns = mod_below (start / 32) s.columns (omega (arith, n, c.columns-columns.ensures.some)) in
    let split : c.min-split.result ≡ min c.args.run.to (from + (s.columns - start / 32 % s.columns)) = rw (c.from-subarrays.ensures, n) at c.min-split.ensures in
    let near : from + (s.columns - start / 32 % s.columns) < c.args.run.to = omega arith in
    let l : from ≤ from + (s.columns - start / 32 % s.columns) = omega arith in
    let h : start + (from + (s.columns - start / 32 % s.columns) - from) * 32 < (64 - c.args.run.base) * (32 * s.columns) =
    rw c.requires.step at (c.requires.rows (from + (s.columns - start / 32 % s.columns)) l near) in
    let i : start + (s.columns - start / 32 % s.columns) * 32 < (64 - c.args.run.base) * (32 * s.columns) = omega arith in
    rw (c.from.ensures, c.from-subarrays.ensures, n) (next_row c.args.run.base s.columns start (start / 32 / s.columns) (start / 32 % s.columns) (sym (div-add-mod' (start / 32) s.columns)) at i)

pub returns : goal.returns
returns g c k =
    let s = g.P.Planes.slices c.args.p.now in
    let start = c.args.run.start in
    let base = c.args.run.base in
    let from = c.args.run.from in
    let to = c.args.run.to in
    let split = c.min-split.result in
    let q = start / 32 / s.columns in
    let n : c.columns-columns.result ≡ s.columns = c.columns-columns.ensures.value in
    let at : start / 32 % s.columns < s.columns = mod_below (start / 32) s.columns (omega (arith, n, c.columns-columns.ensures.some)) in
    let parts : start / 32 ≡ start / 32 / s.columns * s.columns + start / 32 % s.columns = sym (div-add-mod' (start / 32) s.columns) in
    let cut : c.min-split.result ≡ min c.args.run.to (c.args.run.from + (s.columns - start / 32 % s.columns)) = rw (c.from-subarrays.ensures, n) at c.min-split.ensures in
    let some = c.requires.some in
    let end = c.requires.end in
    let first : ℕ → Bool = λ i. s.bit (start % 32) (base + q) (start / 32 % s.columns + (i - from)) in
    let next : ℕ → Bool = λ i. s.bit (start % 32) (base + q + 1) (0 + (i - split)) in
    let bits : ℕ → Bool = λ i. bit_in_group s base (start + (i - from) * 32) in
    c.write_register-2.ensures k ∙ rw (c.write_register.ensures k, c.from.ensures, c.from-subarrays.ensures, n, c.requires.step)
    (along_all from split to k first next bits (word_bit c.args.words.now) (omega arith) (omega arith)
    (λ l m. along_first s base start q (start / 32 % s.columns) k from parts (omega arith))
    (λ l m. along_next s base start q (start / 32 % s.columns) k from split parts at (omega arith) l (omega arith)))

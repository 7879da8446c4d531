use Rattle.std.proofs.Common.{Some, None, sym, ◌∙◌, arith, string_bytes}
use Rattle.command_words.proofs.GrammarLemmas.{flag_added, value_added, value_missing, no_option, none_left, map_none, map_front}
use Rattle.command_words.proofs.words.+options_after.Goals as goal

pub returns-in_default : goal.returns-in_default
returns-in_default t c = sym (rw (map_none string_bytes c.args.words.now (omega arith)) (none_left c.args.place c.args.given))

pub returns-in_err-with_flag : goal.returns-in_err-with_flag
returns-in_err-with_flag t c =
    let front = map_front string_bytes c.args.words.now c.word-item.result (omega arith) c.word-item.is in
    let is = rw c.as_str.ensures.value at c.in-Some.ensures in
    c.from_residual.ensures ∙ sym (rw front (flag_added c.args.place c.args.given c.in-Some.flag None _ _ is c.in_err-with_flag.ensures))

pub returns-in-Some : goal.returns-in-Some
returns-in-Some t c =
    let front = map_front string_bytes c.args.words.now c.word-item.result (omega arith) c.word-item.is in
    let is = rw c.as_str.ensures.value at c.in-Some.ensures in
    c.options_after.ensures ∙ sym (rw front (flag_added c.args.place c.args.given c.in-Some.flag (Some c.in_ok-with_flag.field-0) _ _ is c.in_ok-with_flag.ensures))

pub returns-in_err-option : goal.returns-in_err-option
returns-in_err-option t c =
    let front = map_front string_bytes c.args.words.now c.word-item.result (omega arith) c.word-item.is in
    let not = rw c.as_str.ensures.value at c.in_default-flag_named.ensures in
    let nor = rw c.as_str-2.ensures.value at c.in_err-option.ensures in
    c.from_residual-in_err-option.ensures ∙ sym (rw front (no_option c.args.place c.args.given _ _ not nor))

pub returns-in_default-rest : goal.returns-in_default-rest
returns-in_default-rest t c =
    let front = map_front string_bytes c.args.words.now c.word-item.result (omega arith) c.word-item.is in
    let none = map_none string_bytes _ c.in_default-rest.len_below in
    let not = rw c.as_str.ensures.value at c.in_default-flag_named.ensures in
    sym (rw (front, none) (value_missing c.args.place c.args.given _ not))

pub returns-in_err-given : goal.returns-in_err-given
returns-in_err-given t c =
    let front = map_front string_bytes c.args.words.now c.word-item.result (omega arith) c.word-item.is in
    let second = map_front string_bytes _ c.value-item.result c.in-len1-up-rest.len_at_least c.value-item.is in
    let not = rw c.as_str.ensures.value at c.in_default-flag_named.ensures in
    let is = rw c.as_str-2.ensures.value at c.in_ok-option.ensures in
    let refused = rw c.as_str-3.ensures.value at c.in_err-given.ensures in
    c.from_residual-in_err-given.ensures ∙ sym (rw (front, second) (value_added c.args.place c.args.given c.in_ok-option.option None _ _ _ not is refused))

pub returns : goal.returns
returns t c =
    let front = map_front string_bytes c.args.words.now c.word-item.result (omega arith) c.word-item.is in
    let second = map_front string_bytes _ c.value-item.result c.in-len1-up-rest.len_at_least c.value-item.is in
    let not = rw c.as_str.ensures.value at c.in_default-flag_named.ensures in
    let is = rw c.as_str-2.ensures.value at c.in_ok-option.ensures in
    let added = rw c.as_str-3.ensures.value at c.in_ok-given.ensures in
    c.options_after-2.ensures ∙ sym (rw (front, second) (value_added c.args.place c.args.given c.in_ok-option.option (Some c.in_ok-given.given) _ _ _ not is added))

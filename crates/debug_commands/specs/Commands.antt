-- What each command of a session leads to, and what it answers.
use Rattle.std.specs.Prelude.{◌≡◌, ℕ, zero, suc, ◌+◌, ◌*◌, ◌==◌, ◌&&◌, ◌||◌, not, Bool, true, false, List, [], ◌∷◌, ◌++◌, codes, length, remove, take, nat_le, nat_lt, Option, Some, None, is_some, if◌then◌else◌, ◌⊎◌}
use Rattle.std.specs.List.{slice_get}
use Rattle.std.specs.Option.{option_map_or}
use Rattle.bit_rows.specs.Slices.{Slices}
use Rattle.debug_texts.specs.ShownTexts.{place_line, memory_line, slice_line, tags_line, replayed_line, program_line, operation_line, break_line, map_line}
use Rattle.debug_words.specs.declared.command.Command.{Command}
use Rattle.debug_words.specs.declared.command.Command.TheVariants.{Step, Cont, Break, Map, Quit, Show}
use Rattle.debug_words.specs.declared.command.Shown.{Shown}
use Rattle.debug_words.specs.declared.command.Shown.TheVariants.{Nothing, Regs, Vregs, Vcsr, Mem, Slice, Tags, Micro, MicroAt, Ustep, NoForm, NoRange}
use Rattle.guest_mem.specs.Pages.{byte_at}
use Rattle.machine.specs.Answers.{step_for}
use Rattle.machine.specs.Moments.{Held, Moment, moment_after, program_at}
use Rattle.machine.specs.Resuming.{resumed, mapped}
use Rattle.machine.specs.Views.{AsksDevice}
use Rattle.machine.specs.declared.answers.DeviceFault.TheVariants.{ReadFault}
use Rattle.micro_ir.specs.Replay.{replay}
use Rattle.micro_ir.specs.declared.op.MicroOp.{MicroOp}
use Rattle.report_texts.specs.Lines.{line_of}
use Rattle.report_texts.specs.StateTexts.{scalar_lines, control_lines, vector_line}
use Rattle.rvv_meaning.specs.States.{Core, is_running}
use Rattle.cape_io.specs.Views.{DeviceViews, Devices}
use Rattle.debug_commands.specs.Sittings.{Sitting, DeskValue, scene_of, Moves, Holds}

-- ---- breaks

-- the place of an address among breaks, of which so many stand before
abbrev pub place_from : ℕ → ℕ → List ℕ → Option ℕ
place_from i address [] = None
place_from i address (b ∷ bs) = if address == b then Some i else place_from (i + 1) address bs

abbrev pub place_among : ℕ → List ℕ → Option ℕ
place_among address breaks = place_from 0 address breaks

abbrev pub is_among : ℕ → List ℕ → Bool
is_among address breaks = is_some (place_among address breaks)

abbrev pub most_breaks : ℕ
most_breaks = 64

-- The breaks after one was asked for: it is taken away where it stands, and else added, where there is room.
abbrev pub toggled_at : Option ℕ → ℕ → List ℕ → List ℕ
toggled_at (Some i) address breaks = remove breaks i
toggled_at None address breaks = if nat_lt (length breaks) most_breaks then breaks ++ address ∷ [] else breaks

unfoldable pub toggled : ℕ → List ℕ → List ℕ
toggled address breaks = toggled_at (place_among address breaks) address breaks

-- whether it stands then, or none where there was no room
abbrev pub stands_at : Option ℕ → List ℕ → Option Bool
stands_at (Some i) breaks = Some false
stands_at None breaks = if nat_lt (length breaks) most_breaks then Some true else None

unfoldable pub stands : ℕ → List ℕ → Option Bool
stands address breaks = stands_at (place_among address breaks) breaks

-- ---- steps

-- A machine goes on where it runs and is not at a break. No break stops it before the first step.
abbrev pub goes_on : Bool → List ℕ → Core → Bool
goes_on first breaks c = is_running c.mode && (first || not (is_among c.pc breaks))

-- up to so many steps
unfoldable pub steps : Bool → List ℕ → ℕ → Moment → Moment
steps first breaks zero m = m
steps first breaks (suc n) m = if goes_on first breaks m.state.core then steps false breaks n (moment_after m) else m

-- one of these steps is made where a call reads some bytes of the input and is not refused
unfoldable pub MakesRead : Bool → List ℕ → ℕ → Moment → Type 0
MakesRead first breaks zero m = ⊥
MakesRead first breaks (suc n) m =
    (goes_on first breaks m.state.core ≡ true) × (AsksDevice ReadFault m.state.core ⊎ MakesRead false breaks n (moment_after m))

-- a machine that trapped runs again
unfoldable pub resumed_moment : Moment → Moment
resumed_moment m = record m { state = record m.state { core = resumed m.state.core } }

-- another moment, with the same breaks
abbrev pub moved : Moment → Sitting → Sitting
moved m s = record s { moment = m }

-- the sitting after up to so many steps to a break
unfoldable pub stepped : List ℕ → ℕ → Sitting → Sitting
stepped breaks k s = moved (steps true breaks k s.moment) s

unfoldable pub advanced : List ℕ → ℕ → Sitting → Sitting
advanced breaks k s = moved (steps true breaks k (resumed_moment s.moment)) s

-- one of those steps is a read
unfoldable pub StepsRead : List ℕ → ℕ → Sitting → Type 0
StepsRead breaks k s = MakesRead true breaks k s.moment

unfoldable pub ReadsIn : List ℕ → ℕ → Sitting → Type 0
ReadsIn breaks k s = MakesRead true breaks k (resumed_moment s.moment)

abbrev pub silent : Sitting → List ℕ
silent s = []

-- ---- pages

abbrev pub most_pages : ℕ
most_pages = 4096

-- whether the page of an address is mapped
abbrev pub is_mapped : ℕ → Core → Bool
is_mapped address c = is_some (byte_at c.mem.pages address)

-- What a session does at a page: it was mapped before (false), or it is mapped now (true), or the session has mapped as many as
-- it may (none).
unfoldable pub mapping : ℕ → Core → (pages : ℕ) → Option Bool
mapping address c pages = if is_mapped address c then Some false else if nat_lt pages most_pages then Some true else None

-- what the machine holds then, and how many pages were mapped
abbrev pub core_mapped : Option Bool → ℕ → Core → Core
core_mapped None address c = c
core_mapped (Some false) address c = c
core_mapped (Some true) address c = mapped address c

abbrev pub pages_mapped : Option Bool → ℕ → ℕ
pages_mapped None pages = pages
pages_mapped (Some false) pages = pages
pages_mapped (Some true) pages = pages + 1

abbrev pub map_by : Option Bool → ℕ → Sitting → Sitting
map_by what address s = record s {
  moment = record s.moment { state = record s.moment.state { core = core_mapped what address s.moment.state.core } };
  pages = pages_mapped what s.pages;
}

unfoldable pub map_page : ℕ → Sitting → Sitting
map_page address s = map_by (mapping address s.moment.state.core s.pages) address s

-- ---- what a command leads to

unfoldable pub after : Command → Sitting → Sitting
after (Step k) s = advanced [] k s
after (Cont k) s = advanced s.breaks k s
after (Break address) s = record s { breaks = toggled address s.breaks }
after (Map address) s = map_page address s
after Quit s = s
after (Show shown) s = s

-- one of the steps that a command makes is a read
unfoldable pub Reads : Command → Sitting → Type 0
Reads (Step k) s = ReadsIn [] k s
Reads (Cont k) s = ReadsIn s.breaks k s
Reads command s = ⊥

-- how many steps a command makes at most
abbrev pub steps_in : Command → ℕ
steps_in (Step k) = k
steps_in (Cont k) = k
steps_in command = 0

-- ---- what a command answers

abbrev pub form_text : List ℕ
form_text = codes "? form\n"

abbrev pub range_text : List ℕ
range_text = codes "? range\n"

abbrev pub full_text : List ℕ
full_text = codes "? full\n"

-- where a machine stands, or how it ended
unfoldable pub place_text : Core → List ℕ
place_text c = if is_running c.mode then place_line c.pc c.csrs.retired c.mem.pages else line_of (step_for c.mode) c.csrs.retired

unfoldable pub place_after : List ℕ → ℕ → Sitting → List ℕ
place_after breaks k s = place_text (advanced breaks k s).moment.state.core

abbrev pub break_answer : ℕ → Option Bool → List ℕ
break_answer address None = full_text
break_answer address (Some on) = break_line address on

unfoldable pub break_text : ℕ → List ℕ → List ℕ
break_text address breaks = break_answer address (stands address breaks)

abbrev pub map_answer : ℕ → Option Bool → List ℕ
map_answer address None = full_text
map_answer address (Some new) = map_line address new

unfoldable pub map_text : ℕ → Core → (pages : ℕ) → List ℕ
map_text address c pages = map_answer address (mapping address c pages)

-- one operation of a program
unfoldable pub operation_text : ℕ → List MicroOp → List ℕ
operation_text k ops = option_map_or (operation_line k) (slice_get ops k) range_text

-- The program of the instruction at pc, empty where it has none.
abbrev pub program_or_none : Option (List MicroOp) → List MicroOp
program_or_none None = []
program_or_none (Some ops) = ops

-- the slices after the first operations of a program, which starts from the control number 0
abbrev pub replayed : ℕ → List MicroOp → Slices → Slices
replayed k ops s = replay (take k ops) (record s { num = 0 })

unfoldable pub replayed_text : (k sub row : ℕ) → List MicroOp → Slices → List ℕ
replayed_text k sub row ops s = if nat_le k (length ops) then replayed_line k sub row (replayed k ops s) else range_text

-- what is shown of a machine that holds this
unfoldable pub shown_text : Shown → Core → Slices → List MicroOp → List ℕ
shown_text Nothing c s last = []
shown_text Regs c s last = scalar_lines c
shown_text (Vregs r) c s last = vector_line c r
shown_text Vcsr c s last = control_lines c.csrs
shown_text (Mem address n) c s last = memory_line c.mem.pages address n
shown_text (Slice sub row) c s last = slice_line sub row s
shown_text (Tags sub) c s last = tags_line sub s
shown_text Micro c s last = program_line last
shown_text (MicroAt k) c s last = operation_text k last
shown_text (Ustep k sub row) c s last = replayed_text k sub row (program_or_none (program_at c)) s
shown_text NoForm c s last = form_text
shown_text NoRange c s last = range_text

unfoldable pub says : Command → Sitting → List ℕ
says (Step k) s = place_after [] k s
says (Cont k) s = place_after s.breaks k s
says (Break address) s = break_text address s.breaks
says (Map address) s = map_text address s.moment.state.core s.pages
says Quit s = []
says (Show shown) s = shown_text shown s.moment.state.core s.moment.slices s.moment.last

-- ---- what a call that carries out steps or a command leaves

abbrev pub Advances : List ℕ → ℕ → Bool → Held → Held → DeskValue → Devices → Type 0
Advances breaks k went machine machine' desk io = Moves (stepped breaks k) silent went (scene_of machine desk io.old) (scene_of machine' desk io.new)

abbrev pub StepsOn : List ℕ → ℕ → Bool → Held → Held → DeskValue → Devices → Type 0
StepsOn breaks k went machine machine' desk io = Moves (advanced breaks k) (place_after breaks k) went (scene_of machine desk io.old) (scene_of machine' desk io.new)

abbrev pub Performs : Command → Bool → Held → Held → DeskValue → DeskValue → Devices → Type 0
Performs command went machine machine' desk desk' io = Moves (after command) (says command) went (scene_of machine desk io.old) (scene_of machine' desk' io.new)

abbrev pub HoldsAt : (Sitting → Type 0) → Held → DeskValue → DeviceViews → Type 0
HoldsAt P machine desk io = Holds P (scene_of machine desk io)

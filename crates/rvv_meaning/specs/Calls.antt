-- The calls that a guest makes of its environment (numbers and answers of Linux for RISC-V), as functions of its
-- registers, its memory and the bytes that a read takes. x17 has the number, x10 to x12 the arguments, and x10 gets the
-- answer.
use Rattle.std.specs.Prelude.{◌==◌, ◌&&◌, ◌||◌, ℕ, ◌-◌, ◌^◌, ◌%◌, Bool, List, [], length, take, nat_le, is_none, slice_index, if◌then◌else◌}
use Rattle.guest_mem.specs.Pages.{Pages, Memory, first_bad, written}
use Rattle.guest_mem.specs.Ranges.{range_bytes}
use Rattle.rvv_meaning.specs.Scalar.Registers as registers
use Rattle.rvv_meaning.specs.declared.Call.{Call}
use Rattle.rvv_meaning.specs.declared.Call.TheVariants.{Read, Write, Exit, Break, Close, Seek, Unknown}

-- the number and the arguments
abbrev pub number : List ℕ → ℕ
number regs = slice_index regs 17

abbrev pub first : List ℕ → ℕ
first regs = slice_index regs 10

abbrev pub second : List ℕ → ℕ
second regs = slice_index regs 11

abbrev pub third : List ℕ → ℕ
third regs = slice_index regs 12

-- which call a number names
unfoldable pub call_of : ℕ → Call
call_of n =
    if n == 63 then Read
    else if n == 64 then Write
    else if (n == 93) || (n == 94) then Exit
    else if n == 214 then Break
    else if n == 57 then Close
    else if n == 62 then Seek
    else Unknown

-- the call that the registers ask for
abbrev pub named_call : List ℕ → Call
named_call regs = call_of (number regs)

-- the descriptor of the input, those of the outputs (1 is the output, 2 the error output), and those that are open
abbrev pub is_input : ℕ → Bool
is_input descriptor = descriptor == 0

abbrev pub is_output : ℕ → Bool
is_output descriptor = (descriptor == 1) || (descriptor == 2)

abbrev pub is_open : ℕ → Bool
is_open descriptor = is_input descriptor || is_output descriptor

-- the permissions to read and to write
abbrev pub readable : ℕ
readable = 4

abbrev pub writable : ℕ
writable = 2

-- every byte of a range may be read, or written
abbrev pub is_readable : Pages → ℕ → ℕ → Bool
is_readable pages address count = is_none (first_bad pages readable address count)

abbrev pub is_writable : Pages → ℕ → ℕ → Bool
is_writable pages address count = is_none (first_bad pages writable address count)

-- the word of a negative number
abbrev pub negative : ℕ → ℕ
negative n = 2 ^ 32 - n

-- the answers of a call that is refused: for its descriptor (EBADF), for its range (EFAULT), since its descriptor has no
-- place to seek (ESPIPE), and since there is no such call (ENOSYS)
abbrev pub bad_descriptor : ℕ
bad_descriptor = negative 9

abbrev pub bad_address : ℕ
bad_address = negative 14

abbrev pub no_seek : ℕ
no_seek = negative 29

abbrev pub no_call : ℕ
no_call = negative 38

-- what write(descriptor, address, count) answers: how many bytes it wrote, or why it was refused
abbrev pub write_answer : Pages → ℕ → ℕ → ℕ → ℕ
write_answer pages descriptor address count =
    if is_output descriptor then (if is_readable pages address count then count else bad_address) else bad_descriptor

-- the bytes that it puts; a call that is refused puts nothing
abbrev pub write_bytes : Pages → ℕ → ℕ → ℕ → List ℕ
write_bytes pages descriptor address count =
    if is_output descriptor then (if is_readable pages address count then range_bytes pages address count else []) else []

-- how many bytes read(descriptor, address, count) asks of the input; a call that is refused asks for none
abbrev pub read_count : Pages → ℕ → ℕ → ℕ → ℕ
read_count pages descriptor address count =
    if is_input descriptor then (if is_writable pages address count then count else 0) else 0

-- what it answers where it took these bytes: how many they are, or why it was refused
abbrev pub read_answer : Pages → ℕ → ℕ → ℕ → List ℕ → ℕ
read_answer pages descriptor address count taken =
    if is_input descriptor then (if is_writable pages address count then length taken else bad_address) else bad_descriptor

-- the break after brk(asked): the one that is asked for, where it lies in the heap, and else the break as it is
abbrev pub break_after : Memory → ℕ → ℕ
break_after mem asked = if nat_le mem.heap asked && nat_le asked mem.heap_end then asked else mem.brk

-- what close(descriptor) answers: an open descriptor stays open
abbrev pub close_answer : ℕ → ℕ
close_answer descriptor = if is_open descriptor then 0 else bad_descriptor

-- what llseek(descriptor, ..) answers
abbrev pub seek_answer : ℕ → ℕ
seek_answer descriptor = if is_open descriptor then no_seek else bad_descriptor

-- the code of an exit
abbrev pub exit_code : List ℕ → ℕ
exit_code regs = first regs % 2 ^ 8

-- how many bytes a call asks of the input
unfoldable pub asked_by : Call → List ℕ → Memory → ℕ
asked_by Read regs mem = read_count mem.pages (first regs) (second regs) (third regs)
asked_by Write regs mem = 0
asked_by Exit regs mem = 0
asked_by Break regs mem = 0
asked_by Close regs mem = 0
asked_by Seek regs mem = 0
asked_by Unknown regs mem = 0

-- the bytes that it takes of an input: as many as it asks for, or all that is left
abbrev pub taken_by : Call → List ℕ → Memory → List ℕ → List ℕ
taken_by call regs mem input = take (asked_by call regs mem) input

-- the bytes that a call puts on the output that x10 names
unfoldable pub put_by : Call → List ℕ → Memory → List ℕ
put_by Read regs mem = []
put_by Write regs mem = write_bytes mem.pages (first regs) (second regs) (third regs)
put_by Exit regs mem = []
put_by Break regs mem = []
put_by Close regs mem = []
put_by Seek regs mem = []
put_by Unknown regs mem = []

-- what a call answers, where a read took these bytes; an exit answers nothing, so that x10 stays
unfoldable pub answer_of : Call → List ℕ → Memory → List ℕ → ℕ
answer_of Read regs mem taken = read_answer mem.pages (first regs) (second regs) (third regs) taken
answer_of Write regs mem taken = write_answer mem.pages (first regs) (second regs) (third regs)
answer_of Exit regs mem taken = first regs
answer_of Break regs mem taken = break_after mem (first regs)
answer_of Close regs mem taken = close_answer (first regs)
answer_of Seek regs mem taken = seek_answer (first regs)
answer_of Unknown regs mem taken = no_call

-- the registers after a call: x10 has the answer
abbrev pub regs_after : Call → List ℕ → Memory → List ℕ → List ℕ
regs_after call regs mem taken = registers.written regs 10 (answer_of call regs mem taken)

-- the memory after a call: a read writes the bytes that it took, and a call for a break may move it
unfoldable pub memory_after : Call → List ℕ → Memory → List ℕ → Memory
memory_after Read regs mem taken = record mem { pages = written mem.pages (second regs) taken }
memory_after Write regs mem taken = mem
memory_after Exit regs mem taken = mem
memory_after Break regs mem taken = record mem { brk = break_after mem (first regs) }
memory_after Close regs mem taken = mem
memory_after Seek regs mem taken = mem
memory_after Unknown regs mem taken = mem

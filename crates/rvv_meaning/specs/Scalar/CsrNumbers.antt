-- The numbers of the control and status registers: those of the vector extension (vector extension 1.0, section 3), and
-- the counters (chapter Zicntr).
use Rattle.std.specs.Prelude.{ℕ}

-- the first element of a vector instruction (vector extension 1.0, section 3.7)
abbrev pub vstart : ℕ
vstart = 0x008

-- whether a fixed-point result was clipped (vector extension 1.0, section 3.9)
abbrev pub vxsat : ℕ
vxsat = 0x009

-- the rounding mode of fixed-point results (vector extension 1.0, section 3.8)
abbrev pub vxrm : ℕ
vxrm = 0x00a

-- vxrm above vxsat (vector extension 1.0, section 3.10)
abbrev pub vcsr : ℕ
vcsr = 0x00f

-- the length of a vector (vector extension 1.0, section 3.5)
abbrev pub vl : ℕ
vl = 0xc20

-- the type of a vector (vector extension 1.0, section 3.4)
abbrev pub vtype : ℕ
vtype = 0xc21

-- the length of a vector register in bytes (vector extension 1.0, section 3.6)
abbrev pub vlenb : ℕ
vlenb = 0xc22

-- the cycles, lower half (chapter Zicntr)
abbrev pub cycle : ℕ
cycle = 0xc00

-- the instructions retired, lower half (chapter Zicntr)
abbrev pub instret : ℕ
instret = 0xc02

-- the cycles, higher half (chapter Zicntr)
abbrev pub cycleh : ℕ
cycleh = 0xc80

-- the instructions retired, higher half (chapter Zicntr)
abbrev pub instreth : ℕ
instreth = 0xc82

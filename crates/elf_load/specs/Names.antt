-- The number and the name of each fault.
use Rattle.std.specs.Prelude.{ℕ, List, codes}
use Rattle.elf_load.specs.declared.faults.LoadFault.{LoadFault}
use Rattle.elf_load.specs.declared.faults.LoadFault.TheVariants.{TooBig, TooShort, BadMagic, NotElf32, NotLittleEndian, BadVersion, NotExecutable, NotRiscv, Compressed, BadPhentsize, TooManyHeaders, HeadersPastEnd, Dynamic, FileszAboveMemsz, SegmentPastFile, SegmentWraps, Overlap, OverStack, TooLarge, NoSegments, BadEntry, NoMemory}

abbrev pub number_of : LoadFault → ℕ
number_of TooBig = 1
number_of TooShort = 2
number_of BadMagic = 3
number_of NotElf32 = 4
number_of NotLittleEndian = 5
number_of BadVersion = 6
number_of NotExecutable = 7
number_of NotRiscv = 8
number_of Compressed = 9
number_of BadPhentsize = 10
number_of TooManyHeaders = 11
number_of HeadersPastEnd = 12
number_of Dynamic = 13
number_of FileszAboveMemsz = 14
number_of SegmentPastFile = 15
number_of SegmentWraps = 16
number_of Overlap = 17
number_of OverStack = 18
number_of TooLarge = 19
number_of NoSegments = 20
number_of BadEntry = 21
number_of NoMemory = 0

unfoldable pub name_of : LoadFault → List ℕ
name_of TooBig = codes "TooBig"
name_of TooShort = codes "TooShort"
name_of BadMagic = codes "BadMagic"
name_of NotElf32 = codes "NotElf32"
name_of NotLittleEndian = codes "NotLittleEndian"
name_of BadVersion = codes "BadVersion"
name_of NotExecutable = codes "NotExecutable"
name_of NotRiscv = codes "NotRiscv"
name_of Compressed = codes "Compressed"
name_of BadPhentsize = codes "BadPhentsize"
name_of TooManyHeaders = codes "TooManyHeaders"
name_of HeadersPastEnd = codes "HeadersPastEnd"
name_of Dynamic = codes "Dynamic"
name_of FileszAboveMemsz = codes "FileszAboveMemsz"
name_of SegmentPastFile = codes "SegmentPastFile"
name_of SegmentWraps = codes "SegmentWraps"
name_of Overlap = codes "Overlap"
name_of OverStack = codes "OverStack"
name_of TooLarge = codes "TooLarge"
name_of NoSegments = codes "NoSegments"
name_of BadEntry = codes "BadEntry"
name_of NoMemory = codes "NoMemory"

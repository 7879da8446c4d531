-- The image of some words: an ELF header, one program header, and the words (System V ABI, chapters 4 and 5, class 32,
-- lowest byte first). The file is its only segment, which may be read and executed, and its first word is its entry.
use Rattle.std.specs.Prelude.{ℕ, ◌+◌, ◌*◌, List, [], ◌∷◌, ◌++◌, length}
use Rattle.std.specs.List.{flat_map}
use Rattle.std.specs.Int.{bytes_low_first}
use Rattle.work_gen.specs.Words.{program}

-- a number in two bytes, and in four
abbrev pub half : ℕ → List ℕ
half n = bytes_low_first 0 2 n

abbrev pub word : ℕ → List ℕ
word n = bytes_low_first 0 4 n

-- the address of the image, the bytes of its headers, and the address of its first word
abbrev pub base : ℕ
base = 0x10000

abbrev pub headers_size : ℕ
headers_size = 84

abbrev pub first_word : ℕ
first_word = base + headers_size

-- the bytes that say what a file is: the magic number, 32 bits, lowest byte first, version 1, and nine zeros
abbrev pub identity : List ℕ
identity = 0x7f ∷ 0x45 ∷ 0x4c ∷ 0x46 ∷ 1 ∷ 1 ∷ 1 ∷ 0 ∷ 0 ∷ 0 ∷ 0 ∷ 0 ∷ 0 ∷ 0 ∷ 0 ∷ 0 ∷ []

-- the header: its type, machine and version, its entry, the places of the program headers and of the sections, its flags,
-- the bytes of this header and of a program header and how many those are, and three numbers about sections
abbrev pub elf_header : List ℕ
elf_header =
    identity ++ (half 2 ++ (half 243 ++ (word 1 ++ (word first_word ++ (word 52 ++ (word 0 ++ (word 0 ++ (half 52 ++ (half 32 ++ (half 1 ++ (half 0 ++ (half 0 ++ half 0))))))))))))

-- the program header of a segment of so many bytes: its type, its place in the file, its address twice, its bytes in the
-- file and in memory, the permissions to read and to execute, and its alignment
abbrev pub program_header : ℕ → List ℕ
program_header size =
    word 1 ++ (word 0 ++ (word base ++ (word base ++ (word size ++ (word size ++ (word 5 ++ word 4096))))))

-- the bytes of an image of so many words
abbrev pub image_size : ℕ → ℕ
image_size words = headers_size + 4 * words

-- the image of some words
unfoldable pub image_of : List ℕ → List ℕ
image_of words = elf_header ++ (program_header (image_size (length words)) ++ flat_map word words)

-- the image of a workload
abbrev pub workload : ℕ → ℕ → List ℕ
workload seed size = image_of (program seed size)

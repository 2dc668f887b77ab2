-- Linear memory as a list of bytes (2.5.5, 4.2.8), and what accesses read and write (4.4.4).
use Rattle.std.specs.Prelude.{ℕ, zero, suc, ◌+◌, ◌*◌, ◌/◌, ◌%◌, List, [], ◌∷◌, ◌++◌, length, take, drop, replicate, nat_le, if◌then◌else◌, Bool, Option, Some, None}
use Rattle.linear_memory.specs.declared.width.Width.{Width}
use Rattle.linear_memory.specs.declared.width.Width.TheVariants.{One, Two, Four, Eight}

-- the bytes of a page (4.2.8)
abbrev pub page_bytes : ℕ
page_bytes = 65536

-- the most pages of a memory
abbrev pub max_pages : ℕ
max_pages = 256

pub record Memory : Type 0 where
  pub bytes : List ℕ
  -- the most pages that it may have
  pub cap : ℕ

-- a memory at its instantiation: zeros (4.5.3)
abbrev pub new_memory : (pages cap : ℕ) → Memory
new_memory pages cap = record { bytes = replicate (pages * page_bytes) 0; cap = cap }

-- ---- ranges

-- this number of bytes at this address are inside; an empty range is if its address is at most the size
abbrev pub is_inside : Memory → (address count : ℕ) → Bool
is_inside m address count = nat_le (address + count) (length m.bytes)

abbrev pub range : Memory → (address count : ℕ) → List ℕ
range m address count = take count (drop address m.bytes)

abbrev pub read_at : Memory → (address count : ℕ) → Option (List ℕ)
read_at m address count = if is_inside m address count then Some (range m address count) else None

-- the memory with these bytes at an address
abbrev pub with_range : Memory → (address : ℕ) → List ℕ → Memory
with_range m address bytes =
    record m { bytes = take address m.bytes ++ (bytes ++ drop (address + length bytes) m.bytes) }

-- nothing is written if a byte would be outside
abbrev pub written_at : Memory → (address : ℕ) → List ℕ → Memory
written_at m address bytes =
    if is_inside m address (length bytes) then with_range m address bytes else m

-- ---- words

abbrev pub byte_count : Width → ℕ
byte_count One = 1
byte_count Two = 2
byte_count Four = 4
byte_count Eight = 8

-- a number by its bytes, the lowest first (4.3.1)
abbrev pub little_endian : List ℕ → ℕ
little_endian [] = 0
little_endian (b ∷ bs) = b + 256 * little_endian bs

-- the lowest bytes of a number, the lowest first
abbrev pub low_bytes : (count n : ℕ) → List ℕ
low_bytes zero n = []
low_bytes (suc k) n = n % 256 ∷ low_bytes k (n / 256)

abbrev pub loaded : Memory → (address : ℕ) → Width → Option ℕ
loaded m address width =
    if is_inside m address (byte_count width)
    then Some (little_endian (range m address (byte_count width))) else None

abbrev pub stored : Memory → (address : ℕ) → Width → (n : ℕ) → Memory
stored m address width n = written_at m address (low_bytes (byte_count width) n)

-- ---- growth (4.4.4): zeros are added, if the new size is within the cap

abbrev pub pages_of : Memory → ℕ
pages_of m = length m.bytes / page_bytes

abbrev pub can_grow : Memory → (delta : ℕ) → Bool
can_grow m delta = nat_le (pages_of m + delta) m.cap

abbrev pub grown : Memory → (delta : ℕ) → Memory
grown m delta =
    if can_grow m delta then record m { bytes = m.bytes ++ replicate (delta * page_bytes) 0 } else m

abbrev pub grow_result : Memory → (delta : ℕ) → Option ℕ
grow_result m delta = if can_grow m delta then Some (pages_of m) else None

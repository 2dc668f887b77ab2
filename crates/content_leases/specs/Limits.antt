-- The limits of the store, each by its name.
use Rattle.std.specs.Prelude.{ℕ}

abbrev pub max_contents : ℕ
max_contents = 256

abbrev pub max_leases : ℕ
max_leases = 64

-- digests of one lease
abbrev pub max_members : ℕ
max_members = 64

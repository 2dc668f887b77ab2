-- The ids of tasks and leases, and the form of the digests of contents: SHA-256 (FIPS 180-4) in lower-case
-- hexadecimal, as the OCI Image Specification 1.0 writes it (descriptor.md, Digests).
use Rattle.std.specs.Prelude.{ℕ, List, [], ◌∷◌, Bool, false, ◌||◌, ◌&&◌, nat_le, nat_lt, nat_eq, bytes_eq, codes, length, drop, take}
use Rattle.std.specs.List.{list_all}

abbrev pub is_letter_or_digit : ℕ → Bool
is_letter_or_digit c =
    (nat_le 48 c && nat_le c 57) || (nat_le 65 c && nat_le c 90) || (nat_le 97 c && nat_le c 122)

-- a letter, a digit, or one of . _ -
abbrev pub is_id_character : ℕ → Bool
is_id_character c = is_letter_or_digit c || nat_eq c 46 || nat_eq c 95 || nat_eq c 45

-- 1 to 64 such characters, the first of them a letter or a digit
abbrev pub is_id : List ℕ → Bool
is_id [] = false
is_id (c ∷ cs) = is_letter_or_digit c && list_all is_id_character cs && nat_lt (length cs) 64

-- a digit, or a lower-case letter up to f
abbrev pub is_lower_hex : ℕ → Bool
is_lower_hex c = (nat_le 48 c && nat_le c 57) || (nat_le 97 c && nat_le c 102)

-- sha256: and 64 hexadecimal digits
abbrev pub is_digest : List ℕ → Bool
is_digest text =
    nat_eq (length text) 71 && bytes_eq (take 7 text) (codes "sha256:")
    && list_all is_lower_hex (drop 7 text)

-- The characters of the text format (6.2, 6.3), each given by its code. Characters beyond ASCII are
-- in strings and comments alone, so a text is read by the bytes of its UTF-8.
use Rattle.std.specs.Prelude.{ℕ, ◌-◌, Bool, ◌&&◌, ◌||◌, not, nat_lt, nat_le, ◌==◌, if◌then◌else◌, Option, Some, None}

abbrev pub is_between : (low high : ℕ) → ℕ → Bool
is_between low high c = nat_le low c && nat_le c high

-- ---- characters with a meaning of their own: a line feed, and `" ( ) ; \ { } _ + - $`

abbrev pub line_feed : ℕ
line_feed = 0x0A

abbrev pub quote : ℕ
quote = 0x22

abbrev pub open_paren : ℕ
open_paren = 0x28

abbrev pub close_paren : ℕ
close_paren = 0x29

abbrev pub semicolon : ℕ
semicolon = 0x3B

abbrev pub backslash : ℕ
backslash = 0x5C

abbrev pub open_brace : ℕ
open_brace = 0x7B

abbrev pub close_brace : ℕ
close_brace = 0x7D

abbrev pub underscore : ℕ
underscore = 0x5F

abbrev pub plus : ℕ
plus = 0x2B

abbrev pub minus : ℕ
minus = 0x2D

abbrev pub dollar : ℕ
dollar = 0x24

-- ---- classes of characters

-- tab, line feed, carriage return and space separate (6.2.3)
abbrev pub is_space : ℕ → Bool
is_space c = c == 0x09 || c == line_feed || c == 0x0D || c == 0x20

-- The characters of words (6.3.5): the printable ones of ASCII but space, quote, comma, semicolon,
-- parentheses, brackets and braces.
abbrev pub is_word_char : ℕ → Bool
is_word_char c =
    c == 0x21 || is_between 0x23 0x27 c || is_between 0x2A 0x2B c || is_between 0x2D 0x3A c
    || is_between 0x3C 0x5A c || c == 0x5C || is_between 0x5E 0x7A c || c == 0x7C || c == 0x7E

-- what may be in a string as it is (6.3.3): all but control characters, quote and backslash
abbrev pub is_string_char : ℕ → Bool
is_string_char c = nat_le 0x20 c && not (c == quote || c == backslash || c == 0x7F)

-- ---- digits (6.3.1)

abbrev pub hex_digit : ℕ → Option ℕ
hex_digit c =
    if is_between 0x30 0x39 c then Some (c - 0x30)
    else if is_between 0x61 0x66 c then Some (c - 0x57)
    else if is_between 0x41 0x46 c then Some (c - 0x37)
    else None

abbrev pub digit_below : (base : ℕ) → Option ℕ → Option ℕ
digit_below base None = None
digit_below base (Some d) = if nat_lt d base then Some d else None

-- the value of a digit of this base
abbrev pub digit : (base : ℕ) → ℕ → Option ℕ
digit base c = digit_below base (hex_digit c)

-- ---- escapes of one character (6.3.3): `\t`, `\n`, `\r`, `\"`, `\'` and `\\`

abbrev pub escaped : ℕ → Option ℕ
escaped c =
    if c == 0x74 then Some 0x09
    else if c == 0x6E then Some 0x0A
    else if c == 0x72 then Some 0x0D
    else if c == quote || c == 0x27 || c == backslash then Some c
    else None

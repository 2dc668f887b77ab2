-- Characters to tokens (6.2, 6.3.3): a text is parentheses, words and strings, with separators among them.
use Rattle.std.specs.Prelude.{ℕ, ◌+◌, ◌-◌, ◌*◌, List, [], ◌∷◌, Bool, true, false, ◌&&◌, ◌||◌, not, nat_lt, ◌==◌, length, drop, if◌then◌else◌, Result, Ok, Err, Option, Some, None}
use Rattle.std.specs.Char.{encode_utf8}
use Rattle.std.specs.List.{take_while}
use Rattle.text_assembler.specs.declared.fault.Fault.{Fault}
use Rattle.text_assembler.specs.declared.fault.Fault.TheVariants.{Malformed}
use Rattle.text_assembler.specs.declared.token.Lexeme.{Lexeme}
use Rattle.text_assembler.specs.declared.token.Lexeme.TheVariants.{Open, Close, Word, Text}
use Rattle.text_assembler.specs.Reading.{Read, ◌>>=◌, need, read_parts}
use Rattle.text_assembler.specs.Characters.{line_feed, quote, open_paren, close_paren, semicolon, backslash, open_brace, close_brace, is_space, is_word_char, is_string_char, hex_digit, escaped, is_between}
use Rattle.text_assembler.specs.Numbers.{given}

abbrev pub begins_with : ℕ → List ℕ → Bool
begins_with c [] = false
begins_with c (d ∷ ds) = d == c

-- ---- comments (6.2.4)

-- what follows a comment that begins with `;;`: all after the next line feed
unfoldable pub after_line : List ℕ → List ℕ
after_line [] = []
after_line (c ∷ cs) = if c == line_feed then cs else after_line cs

unfoldable pub opens_comment : ℕ → ℕ → Bool
opens_comment c d = c == open_paren && d == semicolon

unfoldable pub closes_comment : ℕ → ℕ → Bool
closes_comment c d = c == semicolon && d == close_paren

-- what follows comments that begin with `(;`, of which this many, at least one, are open, one
-- inside the other
unfoldable pub after_comment : (depth : ℕ) → List ℕ → Result (List ℕ) Fault
after_comment depth [] = Err Malformed
after_comment depth (c ∷ []) = Err Malformed
after_comment depth (c ∷ d ∷ cs) =
    if opens_comment c d then after_comment (depth + 1) cs
    else if closes_comment c d then (if depth == 1 then Ok cs else after_comment (depth - 1) cs)
    else after_comment depth (d ∷ cs)

-- ---- strings (6.3.3)

-- the two digits of a byte, after `\`
unfoldable pub read_byte : List ℕ → Read ℕ (List ℕ)
read_byte (c ∷ d ∷ cs) = do
  high ← given (hex_digit c)
  low ← given (hex_digit d)
  Ok ((16 * high + low) ∷ [], cs)
read_byte cs = Err Malformed

-- the hexadecimal digits of a character's code after the number n, and `}`
unfoldable pub more_code : (n : ℕ) → List ℕ → Read ℕ ℕ
more_code n [] = Err Malformed
more_code n (c ∷ cs) =
    if c == close_brace then Ok (n, cs)
    else (given (hex_digit c)
    >>= λ d. need (nat_lt (16 * n + d) 0x110000) (more_code (16 * n + d) cs))

-- a character by its code: `{`, at least one digit, and `}`; no surrogate (2.2.4)
unfoldable pub read_code : List ℕ → Read ℕ (List ℕ)
read_code (c ∷ d ∷ cs) =
    need (c == open_brace && not (d == close_brace)) (more_code 0 (d ∷ cs) >>= λ n.
    need (not (is_between 0xD800 0xDFFF n.0)) (Ok (encode_utf8 n.0, n.1)))
read_code cs = Err Malformed

-- what this character is an escape of, or a byte
unfoldable pub read_escaped : Option ℕ → List ℕ → List ℕ → Read ℕ (List ℕ)
read_escaped (Some b) all rest = Ok (b ∷ [], rest)
read_escaped None all rest = read_byte all

-- what follows `\`
unfoldable pub read_escape : List ℕ → Read ℕ (List ℕ)
read_escape [] = Err Malformed
read_escape (c ∷ cs) = if c == 0x75 then read_code cs else read_escaped (escaped c) (c ∷ cs) cs

-- a character or an escape, as its bytes
unfoldable pub read_element : List ℕ → Read ℕ (List ℕ)
read_element [] = Err Malformed
read_element (c ∷ cs) =
    if c == backslash then read_escape cs else need (is_string_char c) (Ok (c ∷ [], cs))

-- ---- tokens

-- neither a word nor a string begins here: no two of them touch
unfoldable pub is_apart : List ℕ → Bool
is_apart [] = true
is_apart (c ∷ cs) = not (is_word_char c || c == quote)

-- the string of these bytes, at its closing quote
unfoldable pub read_closing : List ℕ → List ℕ → Read ℕ (List Lexeme)
read_closing bytes [] = Err Malformed
read_closing bytes (c ∷ cs) = need (is_apart cs) (Ok (Text bytes ∷ [], cs))

-- what follows the opening quote of a string
unfoldable pub read_string : List ℕ → Read ℕ (List Lexeme)
read_string cs =
    read_parts (begins_with quote) read_element cs >>= λ bytes. read_closing bytes.0 bytes.1

-- the longest run of characters of words
abbrev pub word_of : List ℕ → List ℕ
word_of cs = take_while is_word_char cs

abbrev pub after_word : List ℕ → List ℕ
after_word cs = drop (length (word_of cs)) cs

unfoldable pub read_word : List ℕ → Read ℕ (List Lexeme)
read_word cs = need (is_apart (after_word cs)) (Ok (Word (word_of cs) ∷ [], after_word cs))

-- what follows `(`: a comment if `;` does
unfoldable pub read_open : List ℕ → Read ℕ (List Lexeme)
read_open [] = Ok (Open ∷ [], [])
read_open (c ∷ cs) =
    if c == semicolon then (after_comment 1 cs >>= λ rest. Ok ([], rest))
    else Ok (Open ∷ [], c ∷ cs)

-- what follows `;`
unfoldable pub read_line : List ℕ → Read ℕ (List Lexeme)
read_line [] = Err Malformed
read_line (c ∷ cs) = need (c == semicolon) (Ok ([], after_line cs))

-- a token, or a separator, which is none
unfoldable pub read_token : List ℕ → Read ℕ (List Lexeme)
read_token [] = Err Malformed
read_token (c ∷ cs) =
    if is_space c then Ok ([], cs)
    else if c == open_paren then read_open cs
    else if c == close_paren then Ok (Close ∷ [], cs)
    else if c == semicolon then read_line cs
    else if c == quote then read_string cs
    else need (is_word_char c) (read_word (c ∷ cs))

abbrev pub is_empty : List ℕ → Bool
is_empty [] = true
is_empty (c ∷ cs) = false

-- the tokens of a text
unfoldable pub tokens_of : List ℕ → Result (List Lexeme) Fault
tokens_of text = read_parts is_empty read_token text >>= λ tokens. Ok tokens.0

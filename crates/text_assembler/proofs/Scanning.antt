-- Texts read token by token, and the words, numbers and parentheses of a line.
use Rattle.std.proofs.Common.{◌≡◌, ℕ, zero, suc, ◌≤◌, ◌<◌, List, [], ◌∷◌, ◌++◌, length, Bool, true, false, ◌==◌, ◌||◌, if◌then◌else◌, Ok, Err, refl, sym, ap, ◌∙◌, arith}
use Rattle.std.proofs.Math.Seq.{take-append_seam, drop-append_seam}
use Rattle.std.proofs.lemmas.Bool.{ne_eqb, or_parts, not-true, true≢false}
use Rattle.std.proofs.lemmas.List.{length-append}
use Rattle.std.specs.List.{prefix_len}
use Rattle.text_assembler.specs.declared.token.Lexeme.{Lexeme}
use Rattle.text_assembler.specs.declared.token.Lexeme.TheVariants.{Open, Close, Word}
use Rattle.text_assembler.specs.Reading.{Read, ◌>>=◌, need, read_some, read_parts}
use Rattle.text_assembler.specs.Characters.{is_word_char, quote, semicolon}
use Rattle.text_assembler.specs.Tokens.{is_apart, read_word, read_open, read_token, is_empty, tokens_of}

-- ---- more steps than are needed

no_more :
    (b : Bool) (text : List ℕ) (other : Read ℕ (List Lexeme)) (r : List Lexeme × List ℕ) → need b (Ok ([], text)) ≡ Ok r
    → (if b then Ok ([], text) else other) ≡ Ok r
no_more true text other r h = h
no_more false text other r h = cc

then_same :
    (found : List Lexeme) (first second : Read ℕ (List Lexeme)) (r : List Lexeme × List ℕ)
    → ((q : List Lexeme × List ℕ) → first ≡ Ok q → second ≡ Ok q)
    → (first >>= λ xs. Ok (found ++ xs.0, xs.1)) ≡ Ok r → (second >>= λ xs. Ok (found ++ xs.0, xs.1)) ≡ Ok r
then_same found (Ok q) second r same h = rw (same q refl) h
then_same found (Err f) second r same h = cc

step_same : (b : Bool) (text : List ℕ) (read : Read ℕ (List Lexeme)) (m n : ℕ) (r : List Lexeme × List ℕ)
    → ((rest : List ℕ) (q : List Lexeme × List ℕ) → read_some is_empty read_token n rest ≡ Ok q
    → read_some is_empty read_token m rest ≡ Ok q)
    → (if b then Ok ([], text)
    else (read >>= λ x. read_some is_empty read_token n x.1 >>= λ xs. Ok (x.0 ++ xs.0, xs.1))) ≡ Ok r
    → (if b then Ok ([], text)
    else (read >>= λ x. read_some is_empty read_token m x.1 >>= λ xs. Ok (x.0 ++ xs.0, xs.1))) ≡ Ok r
step_same true text read m n r same h = h
step_same false text (Ok x) m n r same h =
    then_same x.0 (read_some is_empty read_token n x.1) (read_some is_empty read_token m x.1) r (same x.1) h
step_same false text (Err f) m n r same h = cc

enough :
    (n m : ℕ) (text : List ℕ) (r : List Lexeme × List ℕ) → n ≤ m → read_some is_empty read_token n text ≡ Ok r
    → read_some is_empty read_token m text ≡ Ok r
unfolding read_some
enough zero zero text r le h = h
enough zero (suc m) text r le h = no_more (is_empty text) text _ r h
enough (suc n) zero text r le h = absurd (omega (arith, le))
enough (suc n) (suc m) text r le h =
    step_same (is_empty text) text (read_token text) m n r (λ rest q e. enough n m rest q (omega (arith, le)) e) h

-- ---- texts that have these tokens

abbrev pub Scans : List ℕ → List Lexeme → Type 0
Scans text ts = (n : ℕ) × (n ≤ length text) × (read_some is_empty read_token n text ≡ Ok (ts, []))

pub scans_all : (text : List ℕ) (ts : List Lexeme) → Scans text ts → tokens_of text ≡ Ok ts
unfolding tokens_of read_parts
scans_all text ts h = rw (enough h.0 (length text) text (ts, []) h.1 h.2) refl

pub ended : Scans [] []
unfolding read_some
ended = (0, omega arith, refl)

stepped :
    (text rest : List ℕ) (found ts : List Lexeme) → is_empty text ≡ false → read_token text ≡ Ok (found, rest)
    → length rest < length text → Scans rest ts → Scans text (found ++ ts)
unfolding read_some
stepped text rest found ts e t lt h = (suc h.0, omega (arith, lt, h.1), rw (e, t, h.2) refl)

pub after_space : (rest : List ℕ) (ts : List Lexeme) → Scans rest ts → Scans (0x20 ∷ rest) ts
unfolding read_token
after_space rest ts h = stepped (0x20 ∷ rest) rest [] ts refl refl (omega arith) h

pub after_close : (rest : List ℕ) (ts : List Lexeme) → Scans rest ts → Scans (0x29 ∷ rest) (Close ∷ ts)
unfolding read_token
after_close rest ts h = stepped (0x29 ∷ rest) rest (Close ∷ []) ts refl refl (omega arith) h

pub after_open :
    (c : ℕ) (rest : List ℕ) (ts : List Lexeme) → (c == semicolon) ≡ false → Scans (c ∷ rest) ts
    → Scans (0x28 ∷ c ∷ rest) (Open ∷ ts)
unfolding read_token read_open
after_open c rest ts e h = stepped (0x28 ∷ c ∷ rest) (c ∷ rest) (Open ∷ []) ts refl (rw e refl) (omega arith) h

-- ---- words

-- all characters are those of words
abbrev pub is_wordlike : List ℕ → Bool
is_wordlike [] = true
is_wordlike (c ∷ cs) = if is_word_char c then is_wordlike cs else false

pub both : (b : Bool) (c : Bool) → (if b then c else false) ≡ true → (b ≡ true) × (c ≡ true)
both true c h = (refl, h)
both false c h = cc

no_word : (rest : List ℕ) → is_apart rest ≡ true → prefix_len is_word_char rest ≡ 0
unfolding is_apart
no_word [] h = refl
no_word (c ∷ rest) h =
    rw ((or_parts (is_word_char c) (c == quote) (not-true (is_word_char c || (c == quote)) h)).0) refl

word_len :
    (w rest : List ℕ) → is_wordlike w ≡ true → is_apart rest ≡ true → prefix_len is_word_char (w ++ rest) ≡ length w
word_len [] rest h a = no_word rest a
word_len (c ∷ w) rest h a =
    let k = both (is_word_char c) (is_wordlike w) h in
    rw (k.0, word_len w rest k.1 a) (omega arith)

pub word_read :
    (w rest : List ℕ) → is_wordlike w ≡ true → is_apart rest ≡ true → read_word (w ++ rest) ≡ Ok (Word w ∷ [], rest)
unfolding read_word
word_read w rest h a = rw (word_len w rest h a, take-append_seam w rest, drop-append_seam w rest, a) refl

other_char : (c d : ℕ) → is_word_char c ≡ true → is_word_char d ≡ false → (c == d) ≡ false
other_char c d h k = ne_eqb c d (λ e. true≢false (sym h ∙ ap is_word_char e ∙ k))

word_token : (c : ℕ) (cs : List ℕ) → is_word_char c ≡ true → read_token (c ∷ cs) ≡ read_word (c ∷ cs)
unfolding read_token
word_token c cs h =
    rw (
      other_char c 0x09 h refl,
      other_char c 0x0A h refl,
      other_char c 0x0D h refl,
      other_char c 0x20 h refl,
      other_char c 0x28 h refl,
      other_char c 0x29 h refl,
      other_char c 0x3B h refl,
      other_char c 0x22 h refl,
      h,
    ) refl

pub after_word_of :
    (w rest : List ℕ) (ts : List Lexeme) → is_empty w ≡ false → is_wordlike w ≡ true → is_apart rest ≡ true
    → Scans rest ts → Scans (w ++ rest) (Word w ∷ ts)
after_word_of [] rest ts e h a s = cc
after_word_of (c ∷ w) rest ts e h a s =
    let lt : length rest < suc (length (w ++ rest)) = omega (arith, length-append w rest) in
    stepped (c ∷ w ++ rest) rest (Word (c ∷ w) ∷ []) ts refl
    (word_token c (w ++ rest) (both (is_word_char c) (is_wordlike w) h).0 ∙ word_read (c ∷ w) rest h a) lt s

-- Buffers that are told one after the other, and a stream that they are appended to.
use Rattle.std.proofs.Common.{◌≡◌, All, ℕ, zero, suc, ◌+◌, ◌^◌, ◌*◌, ◌-◌, ◌<◌, ◌≤◌, List, [], ◌∷◌, ◌++◌, length, take, drop, refl, sym, ap, ◌∙◌, arith, length-append, length-take, length-drop, append_assoc, Bool, true, false, ◌&&◌, min, replicate, Some, None, if◌then◌else◌}
use Rattle.std.proofs.lemmas.List.{length-take-le, drop-drop, length-replicate, take_all, take_min, take-replicate, replicate-append-replicate}
use Rattle.linear_memory.specs.Memory.{Memory, is_inside, little_endian, range, read_at}
use Rattle.std.proofs.Math.Seq.{take-add}
use Rattle.std.proofs.lemmas.List.Elements.{All-take, All-drop}
use Rattle.oci_config.specs.Limits.{max_output}
use Rattle.wasi_calls.proofs.RangeLemmas.{within}
use Rattle.wasi_calls.specs.SystemCalls.{Buffer, buffer_at, buffers_at, are_inside, gathered}

pub next_buffer : (m : Memory) (p n i : ℕ) → i < n
    → buffers_at m (p + i * 8) (n - i) ≡ buffer_at m (p + i * 8) ∷ buffers_at m (p + (i + 1) * 8) (n - (i + 1))
next_buffer m p n i h =
    let more : n - i ≡ suc (n - (i + 1)) = omega arith in
    let later : p + i * 8 + 8 ≡ p + (i + 1) * 8 = omega arith in
    ap (λ k. buffers_at m (p + i * 8) k) more ∙ ap (λ a. buffer_at m (p + i * 8) ∷ buffers_at m a (n - (i + 1))) later

pub no_buffer : (m : Memory) (a n i : ℕ) → n ≤ i → buffers_at m a (n - i) ≡ []
no_buffer m a n i h =
    let none : n - i ≡ 0 = omega arith in
    ap (λ k. buffers_at m a k) none

take_none : (n : ℕ) → take {A = ℕ} n [] ≡ []
take_none zero = refl
take_none (suc n) = refl

taken : (n : ℕ) (xs ys : List ℕ) → take n (xs ++ ys) ≡ take n xs ++ take (n - length xs) ys
taken n [] ys =
    let all : n - 0 ≡ n = omega arith in
    ap (λ k. take k ys) (sym all) ∙ ap (λ u. u ++ take (n - 0) ys) (sym (take_none n))
taken zero (x ∷ xs) ys =
    let none : 0 - length (x ∷ xs) ≡ 0 = omega arith in
    ap (λ k. take k ys) (sym none)
taken (suc n) (x ∷ xs) ys =
    let rest = taken n xs ys in
    let left : suc n - length (x ∷ xs) ≡ n - length xs = omega arith in
    ap (λ u. x ∷ u) rest ∙ ap (λ k. x ∷ (take n xs ++ take k ys)) (sym left)

-- ---- the two words of a buffer

two_words : (xs ys : List ℕ) → length xs ≡ 4
    → little_endian (xs ++ ys) ≡ little_endian xs + 2 ^ 32 * little_endian ys
two_words [] ys h = absurd (omega (arith, h))
two_words (a ∷ []) ys h = absurd (omega (arith, h))
two_words (a ∷ b ∷ []) ys h = absurd (omega (arith, h))
two_words (a ∷ b ∷ c ∷ []) ys h = absurd (omega (arith, h))
two_words (a ∷ b ∷ c ∷ d ∷ []) ys h = omega arith
two_words (a ∷ b ∷ c ∷ d ∷ e ∷ xs) ys h = absurd (omega (arith, h))

word_below : (xs : List ℕ) → All (λ b. b < 256) xs → length xs ≡ 4 → little_endian xs < 2 ^ 32
word_below [] all h = absurd (omega (arith, h))
word_below (a ∷ []) all h = absurd (omega (arith, h))
word_below (a ∷ b ∷ []) all h = absurd (omega (arith, h))
word_below (a ∷ b ∷ c ∷ []) all h = absurd (omega (arith, h))
word_below (a ∷ b ∷ c ∷ d ∷ []) all h =
    omega (arith, all 0 0 (omega arith), all 1 0 (omega arith), all 2 0 (omega arith), all 3 0 (omega arith))
word_below (a ∷ b ∷ c ∷ d ∷ e ∷ xs) all h = absurd (omega (arith, h))

-- a number of eight bytes has the address in its lower half and the size in its upper one
pub both_words : (m : Memory) (a n : ℕ) → All (λ b. b < 256) m.bytes → is_inside m a 8 ≡ true
    → n ≡ little_endian (range m a 8)
    → ((buffer_at m a).address < 2 ^ 32) × (n ≡ (buffer_at m a).address + 2 ^ 32 * (buffer_at m a).size)
both_words m a n all inside is =
    let fits = within m a 8 inside in
    let first = range m a 4 in
    let second = range m (a + 4) 4 in
    let count : length first ≡ 4 =
    length-take-le 4 (drop a m.bytes) (omega (arith, fits, length-drop a m.bytes)) in
    let parts : range m a 8 ≡ first ++ second =
    take-add 4 4 (drop a m.bytes) ∙ ap (λ u. first ++ take 4 u) (drop-drop 4 a m.bytes) in
    let bytes = All-take (λ b. b < 256) 4 (drop a m.bytes) (All-drop (λ b. b < 256) a m.bytes all) in
    (word_below first bytes count, is ∙ (ap little_endian parts ∙ two_words first second count))

-- as many of these bytes as a stream has room for
abbrev pub with_bytes : (stream bytes : List ℕ) → List ℕ
with_bytes stream bytes = stream ++ take (max_output - length stream) bytes

pub appended_twice : (stream xs ys : List ℕ)
    → with_bytes (with_bytes stream xs) ys ≡ with_bytes stream (xs ++ ys)
appended_twice stream xs ys =
    let r = max_output - length stream in
    let sizes = length-append stream (take r xs) in
    let some = length-take r xs in
    let left : max_output - length (stream ++ take r xs) ≡ r - length xs = omega arith in
    let split : take r (xs ++ ys) ≡ take r xs ++ take (r - length xs) ys = taken r xs ys in
    ap (λ k. (stream ++ take r xs) ++ take k ys) left ∙ (append_assoc stream (take r xs) (take (r - length xs) ys)
    ∙ ap (λ u. stream ++ u) (sym split))

-- zeros for which there is room, after others
pub zeros_appended : (stream xs : List ℕ) (a b : ℕ) → xs ≡ replicate b 0 → length stream + a + b ≤ max_output
    → with_bytes (stream ++ replicate a 0) xs ≡ stream ++ replicate (a + b) 0
zeros_appended stream xs a b e h =
    let before = length-append stream (replicate a 0) in
    let first = length-replicate {A = ℕ} a 0 in
    let second : length xs ≡ b = ap length e ∙ length-replicate {A = ℕ} b 0 in
    let whole : take (max_output - length (stream ++ replicate a 0)) xs ≡ xs =
    take_all (max_output - length (stream ++ replicate a 0)) xs (omega (arith, before, first, second)) in
    ap (λ u. (stream ++ replicate a 0) ++ u) (whole ∙ e) ∙ (append_assoc stream (replicate a 0) (replicate b 0)
    ∙ ap (λ u. stream ++ u) (replicate-append-replicate a b 0))

-- as many zeros as there is room for
pub zeros_taken : (stream : List ℕ) (n count : ℕ) → n ≡ min count (max_output - length stream)
    → stream ++ replicate n 0 ≡ with_bytes stream (replicate count 0)
zeros_taken stream n count e =
    let r = max_output - length stream in
    let size = length-replicate {A = ℕ} count 0 in
    let least : min r (length (replicate count 0)) ≡ n = omega (arith, e, size) in
    ap (λ u. stream ++ u) (sym (take-replicate n count 0 (omega (arith, e)))
    ∙ (ap (λ k. take k (replicate count 0)) (sym least) ∙ take_min r (replicate count 0)))

-- what two parts of a range are, that is inside
pub two_parts : (m : Memory) (a n : ℕ) (xs : List ℕ) (z : ℕ) → is_inside m a n ≡ true
    → Some (xs ++ replicate z 0) ≡ read_at m a n → xs ++ replicate z 0 ≡ range m a n
two_parts m a n xs z h e =
    let whole : Some (xs ++ replicate z 0) ≡ Some (range m a n) = e
    ∙ ap (λ b. if b then Some (range m a n) else None) h in
    cc

pub range_length : (m : Memory) (a n : ℕ) → a + n ≤ length m.bytes → length (range m a n) ≡ n
range_length m a n h =
    let some = length-take n (drop a m.bytes) in
    let rest = length-drop a m.bytes in
    omega arith

both_true : (a b : Bool) → (a && b) ≡ true → (a ≡ true) × (b ≡ true)
both_true true b h = (refl, h)
both_true false b h = cc

-- a buffer that is inside, and those after it
module _ (m : Memory) (p n i : ℕ) (h : i < n) where
  abbrev this : Buffer
  this = buffer_at m (p + i * 8)

  abbrev rest : List Buffer
  rest = buffers_at m (p + (i + 1) * 8) (n - (i + 1))

  abbrev all : List Buffer
  all = buffers_at m (p + i * 8) (n - i)

  pub rest_inside : is_inside m this.address this.size ≡ true → are_inside m rest ≡ are_inside m all
  rest_inside e = sym (ap (are_inside m) (next_buffer m p n i h) ∙ ap (λ b. b && are_inside m rest) e)

  pub inside_both : are_inside m all ≡ true → (is_inside m this.address this.size ≡ true) × (are_inside m rest ≡ true)
  inside_both e = both_true (is_inside m this.address this.size) (are_inside m rest) (sym (ap (are_inside m)
      (next_buffer m p n i h)) ∙ e)

  pub gathers : gathered m all ≡ range m this.address this.size ++ gathered m rest
  gathers = ap (gathered m) (next_buffer m p n i h)

  pub gathered_length : is_inside m this.address this.size ≡ true
      → length (gathered m all) ≡ this.size + length (gathered m rest)
  gathered_length e =
      let sizes = length-append (range m this.address this.size) (gathered m rest) in
      let one = range_length m this.address this.size (within m this.address this.size e) in
      let split = ap length gathers in
      omega arith

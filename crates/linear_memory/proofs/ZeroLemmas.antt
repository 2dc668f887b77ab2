-- Zeros that follow a list of bytes.
use Rattle.std.proofs.Common.{◌≡◌, ℕ, zero, suc, ◌+◌, ◌*◌, ◌/◌, ◌-◌, ◌<◌, ◌≤◌, ◌^◌, min, List, [], ◌∷◌, ◌++◌, length, take, drop, replicate, get_or, refl, sym, ap, ◌∙◌, arith, length-append, length-take, length-drop, append_assoc, append-nil, take-append-drop, pow-add, Bool, true, false, Some, None, if◌then◌else◌}
use Rattle.std.proofs.lemmas.List.{length-replicate, take_all, take-append-le, drop-append-le, take-replicate, drop-replicate, replicate-append-replicate, take_min, drop_min}
use Rattle.std.proofs.lemmas.Bool.Decides.{nat_tests}
use Rattle.std.proofs.Math.Pow.{pow_mono}
use Rattle.linear_memory.specs.Memory.{Memory, little_endian, low_bytes, byte_count, is_inside, range, read_at, loaded, with_range, written_at, page_bytes, can_grow, grown}
use Rattle.linear_memory.specs.declared.width.Width.{Width}

-- ---- numbers

pub higher_zeros : (xs : List ℕ) (k : ℕ) → little_endian (xs ++ replicate k 0) ≡ little_endian xs
higher_zeros [] zero = refl
higher_zeros [] (suc k) = let rest = higher_zeros [] k in omega (arith, rest)
higher_zeros (x ∷ xs) k = ap (λ n. x + 256 * n) (higher_zeros xs k)

pub number_below : (xs : List ℕ) → ((i : ℕ) → get_or xs i 0 < 256) → little_endian xs < 2 ^ (8 * length xs)
number_below [] h = omega arith
number_below (x ∷ xs) h =
    let first : x < 256 = h 0 in
    let rest = number_below xs (λ i. h (suc i)) in
    let bits : 8 * length (x ∷ xs) ≡ 8 * length xs + 8 = omega arith in
    let power : 2 ^ (8 * length (x ∷ xs)) ≡ 2 ^ (8 * length xs) * 2 ^ 8 = ap (λ n. 2 ^ n) bits
    ∙ pow-add 2 (8 * length xs) 8 in
    omega (arith, first, rest, power)

pub low_count : (k n : ℕ) → length (low_bytes k n) ≡ k
low_count zero n = refl
low_count (suc k) n = ap suc (low_count k (n / 256))

pub number_fits : (n l k : ℕ) → l ≤ k → n < 2 ^ (8 * l) → n < 2 ^ (8 * k)
number_fits n l k h small =
    let most : 2 ^ (8 * l) ≤ 2 ^ (8 * k) = pow_mono (omega arith) in
    omega (arith, most, small)

-- the bytes of eight, of which the last are zeros
pub filled_word : (xs : List ℕ) → length xs ≤ 8
    → little_endian (take 8 (xs ++ drop (length xs) (replicate 8 0))) ≡ little_endian xs
filled_word xs h =
    let zeros : drop (length xs) (replicate 8 0) ≡ replicate (8 - length xs) 0 = drop-replicate (length xs) 8 0 in
    let sum = length-append xs (replicate (8 - length xs) 0) in
    let count = length-replicate {A = ℕ} (8 - length xs) 0 in
    ap (λ u. little_endian (take 8 (xs ++ u))) zeros
    ∙ (ap little_endian (take_all 8 (xs ++ replicate (8 - length xs) 0) (omega (arith, sum, count)))
    ∙ higher_zeros xs (8 - length xs))

-- ---- a front, and zeros up to a size

-- the lengths are given as numbers, as a vector has its own
module _ (size m n : ℕ) (xs ys : List ℕ) (is_m : m ≡ length xs) (is_n : n ≡ length ys)
    (more : ys ≡ xs ++ replicate (n - m) 0) (within : n ≤ size) where
  -- some of the zeros are written
  pub more_written : m ≤ n → ys ++ replicate (size - n) 0 ≡ xs ++ replicate (size - m) 0
  more_written h =
      let all : (n - m) + (size - n) ≡ size - m = omega arith in
      ap (λ u. u ++ replicate (size - n) 0) more ∙ (append_assoc xs (replicate (n - m) 0) (replicate (size - n) 0)
      ∙ ap (λ u. xs ++ u) (replicate-append-replicate (n - m) (size - n) 0 ∙ ap (λ k. replicate k 0) all))

-- bytes are written into the front
written_in_front : (xs zs ws : List ℕ) (a : ℕ) → a + length ws ≤ length xs
    → (take a xs ++ (ws ++ drop (a + length ws) xs)) ++ zs
    ≡ take a (xs ++ zs) ++ (ws ++ drop (a + length ws) (xs ++ zs))
written_in_front xs zs ws a h =
    let before : take a (xs ++ zs) ≡ take a xs = take-append-le a xs zs (omega arith) in
    let after : drop (a + length ws) (xs ++ zs)
    ≡ drop (a + length ws) xs ++ zs = drop-append-le (a + length ws) xs zs h in
    rw (before, after) (append_assoc (take a xs) (ws ++ drop (a + length ws) xs) zs
    ∙ ap (λ u. take a xs ++ u) (append_assoc ws (drop (a + length ws) xs) zs))

pub written_length : (xs ws : List ℕ) (a : ℕ) → a + length ws ≤ length xs
    → length (take a xs ++ (ws ++ drop (a + length ws) xs)) ≡ length xs
written_length xs ws a h =
    let e1 = length-append (take a xs) (ws ++ drop (a + length ws) xs) in
    let e2 = length-append ws (drop (a + length ws) xs) in
    let e3 = length-take a xs in
    let e4 = length-drop (a + length ws) xs in
    omega arith

written_inside : (m : Memory) (a : ℕ) (ws : List ℕ) → a + length ws ≤ length m.bytes
    → written_at m a ws ≡ with_range m a ws
written_inside m a ws h =
    let inside : is_inside m a (length ws) ≡ true = grind (arith, nat_tests) in
    ap (λ b. if b then with_range m a ws else m) inside

-- ---- a memory of which a front is written

-- the front, its length, the size and the cap
abbrev pub with_front : List ℕ → (n size most : ℕ) → Memory
with_front xs n size most = record { bytes = xs ++ replicate (size - n) 0; cap = most }

pub whole_size : (xs : List ℕ) (n size most : ℕ) → n ≡ length xs → n ≤ size
    → length (with_front xs n size most).bytes ≡ size
whole_size xs n size most is_n h =
    let sum = length-append xs (replicate (size - n) 0) in
    let count = length-replicate {A = ℕ} (size - n) 0 in
    omega (arith, sum, count, is_n)

pub grown_front : (xs : List ℕ) (n pages delta most : ℕ) → n ≡ length xs → n ≤ pages * page_bytes → pages + delta ≤ most
    → with_front xs n ((pages + delta) * page_bytes) most ≡ grown (with_front xs n (pages * page_bytes) most) delta
grown_front xs n pages delta most is_n h within =
    let m = with_front xs n (pages * page_bytes) most in
    let size = whole_size xs n (pages * page_bytes) most is_n h in
    let can : can_grow m delta ≡ true = grind (arith, nat_tests) in
    let all : (pages * page_bytes - n) + delta * page_bytes ≡ (pages + delta) * page_bytes - n = omega arith in
    let added : xs ++ replicate ((pages + delta) * page_bytes - n) 0 ≡ m.bytes ++ replicate (delta * page_bytes) 0 =
    ap (λ k. xs ++ replicate k 0) (sym all)
    ∙ (ap (λ u. xs ++ u) (sym (replicate-append-replicate (pages * page_bytes - n) (delta * page_bytes) 0))
    ∙ sym (append_assoc xs (replicate (pages * page_bytes - n) 0) (replicate (delta * page_bytes) 0))) in
    ap (λ u. record { bytes = u; cap = most }) added
    ∙ ap (λ b. if b then record m { bytes = m.bytes ++ replicate (delta * page_bytes) 0 } else m) (sym can)

-- zeros are written after the front, and then bytes into it
pub written_far : (xs ys ws : List ℕ) (m n size most a : ℕ) → m ≡ length xs → n ≡ length ys
    → ys ≡ xs ++ replicate (n - m) 0 → m ≤ n → n ≤ size → a + length ws ≤ n
    → with_front (take a ys ++ (ws ++ drop (a + length ws) ys)) n size most
    ≡ written_at (with_front xs m size most) a ws
written_far xs ys ws m n size most a is_m is_n more h within inside =
    let same : ys ++ replicate (size - n) 0 ≡ xs ++ replicate (size - m) 0 =
    more_written size m n xs ys is_m is_n more within h in
    let size_is = whole_size xs m size most is_m (omega arith) in
    let whole : written_at (with_front xs m size most) a ws ≡ with_range (with_front xs m size most) a ws =
    written_inside (with_front xs m size most) a ws (omega (arith, size_is)) in
    let front = written_in_front ys (replicate (size - n) 0) ws a (omega (arith, is_n)) in
    ap (λ u. record { bytes = u; cap = most })
    (front ∙ ap (λ u. take a u ++ (ws ++ drop (a + length ws) u)) same) ∙ sym whole

-- the bytes of a row after a store, of which a front is written
take_written : (ys ws : List ℕ) (n a : ℕ) → a + length ws ≤ n → n ≤ length ys
    → take n (take a ys ++ (ws ++ drop (a + length ws) ys))
    ≡ take a (take n ys) ++ (ws ++ drop (a + length ws) (take n ys))
take_written ys ws n a inside le =
    let put : List ℕ → List ℕ = λ u. take a u ++ (ws ++ drop (a + length ws) u) in
    let front : List ℕ = take n ys in
    let long : length front ≡ n = omega (arith, length-take n ys) in
    let whole = written_in_front front (drop n ys) ws a (omega (arith, long)) in
    let count = written_length front ws a (omega (arith, long)) in
    ap (λ u. take n (put u)) (sym (take-append-drop n ys))
    ∙ (ap (take n) (sym whole)
    ∙ (take-append-le n (put front) (drop n ys) (omega (arith, count, long))
    ∙ take_all n (put front) (omega (arith, count, long))))

pub front_count : (xs : List ℕ) (n : ℕ) → n ≤ length xs → n ≡ length (take n xs)
front_count xs n le = omega (arith, length-take n xs)

-- zeros are written after the front of a row, and then bytes into it
pub stored_far : (xs ys zs ws : List ℕ) (m n size most a : ℕ) → m ≤ length xs → n ≤ length ys
    → zs ≡ take a ys ++ (ws ++ drop (a + length ws) ys)
    → take n ys ≡ take m xs ++ replicate (n - m) 0 → m ≤ n → n ≤ size → a + length ws ≤ n
    → with_front (take n zs) n size most ≡ written_at (with_front (take m xs) m size most) a ws
stored_far xs ys zs ws m n size most a old new is_zs more h within inside =
    ap (λ u. with_front u n size most) (ap (take n) is_zs ∙ take_written ys ws n a inside new)
    ∙ written_far (take m xs) (take n ys) ws m n size most a (front_count xs m old) (front_count ys n new) more h within
    inside

-- bytes are written into the front, and it stays as long
pub stored_near : (xs zs ws : List ℕ) (n size most a : ℕ) → n ≤ length xs
    → zs ≡ take a xs ++ (ws ++ drop (a + length ws) xs) → n ≤ size → a + length ws ≤ n
    → with_front (take n zs) n size most ≡ written_at (with_front (take n xs) n size most) a ws
stored_near xs zs ws n size most a old is_zs within inside =
    let none : n - n ≡ 0 = omega arith in
    let same : take n xs ≡ take n xs ++ replicate (n - n) 0 =
    sym (ap (λ k. take n xs ++ replicate k 0) none ∙ append-nil (take n xs)) in
    stored_far xs xs zs ws n n size most a old old is_zs same (omega arith) within inside

-- bytes of the front are read
part_of_front : (xs zs : List ℕ) (a k : ℕ) → a + k ≤ length xs → take k (drop a (xs ++ zs)) ≡ take k (drop a xs)
part_of_front xs zs a k h =
    let rest = length-drop a xs in
    ap (take k) (drop-append-le a xs zs (omega (arith, h))) ∙ take-append-le k (drop a xs) zs (omega (arith, h, rest))

pub loaded_near : (xs : List ℕ) (n size most a : ℕ) (w : Width) (number : ℕ) → n ≤ length xs → n ≤ size
    → a + byte_count w ≤ n → number ≡ little_endian (take (byte_count w) (drop a xs))
    → loaded (with_front (take n xs) n size most) a w ≡ Some number
loaded_near xs n size most a w number le within inside is_number =
    let k = byte_count w in
    let front : List ℕ = take n xs in
    let m = with_front front n size most in
    let count = front_count xs n le in
    let size_is = whole_size front n size most count within in
    let fits : is_inside m a k ≡ true = grind (arith, nat_tests) in
    let same : range m a k ≡ take k (drop a xs) =
    part_of_front front (replicate (size - n) 0) a k (omega (arith, count))
    ∙ (sym (part_of_front front (drop n xs) a k (omega (arith, count)))
    ∙ ap (λ u. take k (drop a u)) (take-append-drop n xs)) in
    ap (λ b. if b then Some (little_endian (range m a k)) else None) fits
    ∙ (ap (λ u. Some (little_endian u)) same ∙ ap Some (sym is_number))

-- ---- ranges

took : (n : ℕ) (xs ys : List ℕ) → take n (xs ++ ys) ≡ take n xs ++ take (n - length xs) ys
took n [] ys =
    let all : n - 0 ≡ n = omega arith in
    ap (λ k. take k ys) (sym all) ∙ ap (λ u. u ++ take (n - 0) ys) (sym (none n))
  where
    none : (n : ℕ) → take {A = ℕ} n [] ≡ []
    none zero = refl
    none (suc n) = refl
took zero (x ∷ xs) ys =
    let none : 0 - length (x ∷ xs) ≡ 0 = omega arith in
    ap (λ k. take k ys) (sym none)
took (suc n) (x ∷ xs) ys =
    let left : suc n - length (x ∷ xs) ≡ n - length xs = omega arith in
    ap (λ u. x ∷ u) (took n xs ys) ∙ ap (λ k. x ∷ (take n xs ++ take k ys)) (sym left)

dropped : (n : ℕ) (xs ys : List ℕ) → drop n (xs ++ ys) ≡ drop n xs ++ drop (n - length xs) ys
dropped zero [] ys = refl
dropped (suc n) [] ys =
    let all : suc n - 0 ≡ suc n = omega arith in
    ap (λ k. drop k ys) (sym all)
dropped zero (x ∷ xs) ys =
    let none : 0 - length (x ∷ xs) ≡ 0 = omega arith in
    ap (λ k. (x ∷ xs) ++ drop k ys) (sym none)
dropped (suc n) (x ∷ xs) ys =
    let left : suc n - length (x ∷ xs) ≡ n - length xs = omega arith in
    dropped n xs ys ∙ ap (λ k. drop n xs ++ drop k ys) (sym left)

-- a range is a part of the front, and then zeros
module _ (xs : List ℕ) (z a count s e : ℕ) (inside : a + count ≤ length xs + z)
    (is_s : s ≡ min (length xs) a) (is_e : e ≡ min (length xs) (a + count)) where
  abbrev zs : List ℕ
  zs = replicate z 0

  part : take (e - s) (drop s xs) ≡ take count (drop a xs)
  part =
      let start : s ≡ min a (length xs) = omega (arith, is_s) in
      let front : drop s xs ≡ drop a xs = ap (λ n. drop n xs) start ∙ drop_min a xs in
      let size : e - s ≡ min count (length (drop a xs)) = omega (arith, is_s, is_e, length-drop a xs) in
      ap (take (e - s)) front ∙ (ap (λ n. take n (drop a xs)) size ∙ take_min count (drop a xs))

  zeros : take (count - length (drop a xs)) (drop (a - length xs) zs) ≡ replicate (count - (e - s)) 0
  zeros =
      let rest = length-drop a xs in
      let left : count - length (drop a xs) ≡ count - (e - s) = omega (arith, is_s, is_e, rest) in
      let within : count - length (drop a xs) ≤ z - (a - length xs) = omega (arith, inside, rest) in
      ap (take (count - length (drop a xs))) (drop-replicate (a - length xs) z 0)
      ∙ (take-replicate (count - length (drop a xs)) (z - (a - length xs)) 0 within ∙ ap (λ n. replicate n 0) left)

  pub range_parts : take (e - s) (drop s xs) ++ replicate (count - (e - s)) 0 ≡ take count (drop a (xs ++ zs))
  range_parts =
      let split : take count (drop a (xs ++ zs))
      ≡ take count (drop a xs) ++ take (count - length (drop a xs)) (drop (a - length xs) zs) =
      ap (take count) (dropped a xs zs) ∙ took count (drop a xs) (drop (a - length xs) zs) in
      ap (λ u. u ++ replicate (count - (e - s)) 0) part
      ∙ (ap (λ u. take count (drop a xs) ++ u) (sym zeros) ∙ sym split)

pub read_parts : (xs : List ℕ) (n size most a count s e : ℕ) → n ≡ length xs → n ≤ size → a + count ≤ size
    → s ≡ min n a → e ≡ min n (a + count)
    → Some (take (e - s) (drop s xs) ++ replicate (count - (e - s)) 0) ≡ read_at (with_front xs n size most) a count
read_parts xs n size most a count s e is_n h inside is_s is_e =
    let m = with_front xs n size most in
    let size_is = whole_size xs n size most is_n h in
    let within : is_inside m a count ≡ true = grind (arith, nat_tests) in
    let parts =
    range_parts xs (size - n) a count s e (omega (arith, is_n)) (omega (arith, is_s, is_n))
    (omega (arith, is_e, is_n)) in
    ap Some parts ∙ ap (λ b. if b then Some (range m a count) else None) (sym within)

-- a word is read as a range
of_parts : (inside : Bool) (xs ys : List ℕ) → Some xs ≡ (if inside then Some ys else None)
    → Some (little_endian xs) ≡ (if inside then Some (little_endian ys) else None)
of_parts true xs ys e = cc
of_parts false xs ys e = cc

pub loaded_parts : (m : Memory) (a : ℕ) (w : Width) (xs : List ℕ) (z n : ℕ)
    → Some (xs ++ replicate z 0) ≡ read_at m a (byte_count w) → n ≡ little_endian xs → Some n ≡ loaded m a w
loaded_parts m a w xs z n e is_n =
    ap Some (is_n ∙ sym (higher_zeros xs z))
    ∙ of_parts (is_inside m a (byte_count w)) (xs ++ replicate z 0) (range m a (byte_count w)) e

at_most : (inside : Bool) (xs ys : List ℕ) (count : ℕ) → Some xs ≡ (if inside then Some (take count ys) else None)
    → length xs ≤ count
at_most true xs ys count e =
    let same : xs ≡ take count ys = cc in
    omega (arith, ap length same, length-take count ys)
at_most false xs ys count e = cc

pub part_at_most : (m : Memory) (a count : ℕ) (xs : List ℕ) (z : ℕ)
    → Some (xs ++ replicate z 0) ≡ read_at m a count → length xs ≤ count
part_at_most m a count xs z e =
    let all = at_most (is_inside m a count) (xs ++ replicate z 0) (drop a m.bytes) count e in
    omega (arith, all, length-append xs (replicate z 0))

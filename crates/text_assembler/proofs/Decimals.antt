-- Numbers in decimal, read back.
use Rattle.std.proofs.Common.{◌≡◌, ℕ, ◌+◌, ◌-◌, ◌*◌, ◌/◌, ◌%◌, ◌^◌, ◌≤◌, ◌<◌, List, [], ◌∷◌, ◌++◌, Bool, true, false, ◌==◌, ◌||◌, not, nat_lt, nat_le, if◌then◌else◌, Result, Ok, Err, Some, decimal, refl, sym, ap, ◌∙◌, arith}
use Rattle.std.proofs.lemmas.Bool.{ne_eqb, le-leb, lt-ltb, and_from, and_parts, and_right, or_right, leb-true, agree_below_at, true≢false}
use Rattle.std.proofs.lemmas.Fmt.{decimal_by_steps}
use Rattle.text_assembler.specs.declared.fault.Fault.{Fault}
use Rattle.text_assembler.specs.declared.fault.Fault.TheVariants.{Malformed}
use Rattle.text_assembler.specs.Reading.{◌>>=◌}
use Rattle.text_assembler.specs.Characters.{is_between, is_word_char, underscore, digit}
use Rattle.text_assembler.specs.Numbers.{with_digit, more_digits, number, small_number}
use Rattle.text_assembler.specs.Tokens.{is_empty}
use Rattle.text_assembler.specs.Names.{is_id, is_index, Ids, index_of}
use Rattle.text_assembler.proofs.Scanning.{is_wordlike, both}

-- all characters are decimal digits
abbrev pub are_digits : List ℕ → Bool
are_digits [] = true
are_digits (c ∷ cs) = if is_between 0x30 0x39 c then are_digits cs else false

digit_is : (d : ℕ) → d < 10 → digit 10 (48 + d) ≡ Some d
digit_is d lt =
    let low : nat_le 48 (48 + d) ≡ true = le-leb 48 (48 + d) (omega arith) in
    let high : nat_le (48 + d) 57 ≡ true = le-leb (48 + d) 57 (omega (arith, lt)) in
    let small : nat_lt d 10 ≡ true = lt-ltb d 10 lt in
    let back : 48 + d - 48 ≡ d = omega arith in
    rw (low, high, back, small) refl

digit_between : (d : ℕ) → d < 10 → is_between 0x30 0x39 (48 + d) ≡ true
digit_between d lt =
    and_from (nat_le 48 (48 + d)) (nat_le (48 + d) 57) (le-leb 48 (48 + d) (omega arith))
    (le-leb (48 + d) 57 (omega (arith, lt)))

one_more : (m d : ℕ) → d < 10 → 10 * m + d < 2 ^ 64 → with_digit 10 m (48 + d) ≡ Ok (10 * m + d)
unfolding with_digit
one_more m d lt fits = rw (digit_is d lt, lt-ltb (10 * m + d) (2 ^ 64) fits) refl

no_underscore : (d : ℕ) → d < 10 → ((48 + d) == underscore) ≡ false
no_underscore d lt = ne_eqb (48 + d) underscore (λ e. omega (arith, lt, e))

last_digit :
    (due : Bool) (k m d : ℕ) → d < 10 → 10 * m + d < 2 ^ 64 → (if due then Err Malformed else Ok k) ≡ Ok m
    → more_digits 10 k due ((48 + d) ∷ []) ≡ Ok (10 * m + d)
unfolding more_digits
last_digit true k m d lt fits h = cc
last_digit false k m d lt fits h =
    let e : k ≡ m = cc in
    rw (e, no_underscore d lt, one_more m d lt fits) refl

push_by : (b due : Bool) (r : Result ℕ Fault) (k m n : ℕ) (cs ds : List ℕ)
    → ((k : ℕ) (due : Bool) → more_digits 10 k due cs ≡ Ok m → more_digits 10 k due ds ≡ Ok n)
    → (if b then (if due then Err Malformed else more_digits 10 k true cs) else (r >>= λ j. more_digits 10 j false cs))
    ≡ Ok m
    → (if b then (if due then Err Malformed else more_digits 10 k true ds) else (r >>= λ j. more_digits 10 j false ds))
    ≡ Ok n
push_by true true r k m n cs ds more h = cc
push_by true false r k m n cs ds more h = more k true h
push_by false due (Ok j) k m n cs ds more h = more j false h
push_by false due (Err f) k m n cs ds more h = cc

-- one more digit at the end
push_digit :
    (ds : List ℕ) (k m d : ℕ) (due : Bool) → d < 10 → 10 * m + d < 2 ^ 64 → more_digits 10 k due ds ≡ Ok m
    → more_digits 10 k due (ds ++ (48 + d) ∷ []) ≡ Ok (10 * m + d)
unfolding more_digits
push_digit [] k m d due lt fits h = last_digit due k m d lt fits h
push_digit (c ∷ ds) k m d due lt fits h =
    push_by (c == underscore) due (with_digit 10 k c) k m (10 * m + d) ds (ds ++ (48 + d) ∷ [])
    (λ j owed. push_digit ds j m d owed lt fits) h

digits_after : (ds : List ℕ) (d : ℕ) → are_digits ds ≡ true → d < 10 → are_digits (ds ++ (48 + d) ∷ []) ≡ true
digits_after [] d h lt = rw (digit_between d lt) refl
digits_after (c ∷ ds) d h lt =
    let k = both (is_between 0x30 0x39 c) (are_digits ds) h in rw k.0 (digits_after ds d k.1 lt)

nonempty_after : (ds : List ℕ) (c : ℕ) → is_empty (ds ++ c ∷ []) ≡ false
nonempty_after [] c = refl
nonempty_after (d ∷ ds) c = refl

abbrev IsSpelling : ℕ → List ℕ → Type 0
IsSpelling n ds = n < 2 ^ 64 → (are_digits ds ≡ true) × (is_empty ds ≡ false) × (more_digits 10 0 true ds ≡ Ok n)

one_digit : (n : ℕ) → n < 10 → IsSpelling n ((48 + n) ∷ [])
unfolding more_digits
one_digit n lt = λ fits.
    let zero_before : 10 * 0 + n ≡ n = omega arith in (
      rw (digit_between n lt) refl,
      refl,
      (rw (no_underscore n lt, one_more 0 n lt (omega (arith, lt))) refl) ∙ ap Ok zero_before,
    )

more_digits_of : (n : ℕ) (ds : List ℕ) → 10 ≤ n → IsSpelling (n / 10) ds → IsSpelling n (ds ++ (48 + n % 10) ∷ [])
more_digits_of n ds le h = λ fits.
    let small : n / 10 < 2 ^ 64 = omega (arith, fits) in
    let lt : n % 10 < 10 = omega arith in
    let whole : 10 * (n / 10) + n % 10 ≡ n = omega arith in
    let k = h small in (
      digits_after ds (n % 10) k.0 lt,
      nonempty_after ds (48 + n % 10),
      push_digit ds 0 (n / 10) (n % 10) true lt (rw whole fits) k.2 ∙ ap Ok whole,
    )

pub spelled :
    (n : ℕ) → n < 2 ^ 64
    → (are_digits (decimal n) ≡ true) × (is_empty (decimal n) ≡ false) × (more_digits 10 0 true (decimal n) ≡ Ok n)
spelled n fits = decimal_by_steps IsSpelling one_digit more_digits_of n fits fits

-- ---- what digits are

digit_word : (c : ℕ) → is_between 0x30 0x39 c ≡ true → is_word_char c ≡ true
digit_word c h =
    let lt : c < 58 = omega (arith, leb-true c 57 (and_parts (nat_le 48 c) (nat_le c 57) h).1) in
    ap (λ (b : Bool). not b || is_word_char c) (sym h)
    ∙ agree_below_at (λ e. not (is_between 0x30 0x39 e) || is_word_char e) (λ e. true) 58 c refl lt

pub digits_wordlike : (ds : List ℕ) → are_digits ds ≡ true → is_wordlike ds ≡ true
digits_wordlike [] h = refl
digits_wordlike (c ∷ ds) h =
    let k = both (is_between 0x30 0x39 c) (are_digits ds) h in rw (digit_word c k.0) (digits_wordlike ds k.1)

apart_from : (c e : ℕ) → is_between 0x30 0x39 c ≡ true → is_between 0x30 0x39 e ≡ false → (c == e) ≡ false
apart_from c e h k = ne_eqb c e (λ p. true≢false (sym h ∙ ap (is_between 0x30 0x39) p ∙ k))

pub digits_number : (ds : List ℕ) (n : ℕ) → are_digits ds ≡ true → more_digits 10 0 true ds ≡ Ok n → number ds ≡ Ok n
unfolding number
digits_number [] n h m = m
digits_number (c ∷ []) n h m = m
digits_number (c ∷ d ∷ ds) n h m =
    let k = both (is_between 0x30 0x39 c) (are_digits (d ∷ ds)) h in
    let l = both (is_between 0x30 0x39 d) (are_digits ds) k.1 in
    rw (and_right (c == 0x30) (d == 0x78) (apart_from d 0x78 l.0 refl)) m

pub digits_no_id : (ds : List ℕ) → are_digits ds ≡ true → is_id ds ≡ false
unfolding is_id
digits_no_id [] h = refl
digits_no_id (c ∷ []) h = refl
digits_no_id (c ∷ d ∷ ds) h = apart_from c 0x24 (both (is_between 0x30 0x39 c) (are_digits (d ∷ ds)) h).0 refl

pub digits_index : (ds : List ℕ) → is_empty ds ≡ false → are_digits ds ≡ true → is_index ds ≡ true
unfolding is_index
digits_index [] e h = cc
digits_index (c ∷ ds) e h =
    or_right (c == 0x24) (is_between 0x30 0x39 c) (both (is_between 0x30 0x39 c) (are_digits ds) h).0

-- ---- decimal numbers

pub number_is : (n : ℕ) → n < 2 ^ 64 → number (decimal n) ≡ Ok n
number_is n fits = let k = spelled n fits in digits_number (decimal n) n k.0 k.2

pub small_is : (n : ℕ) → n < 2 ^ 32 → small_number (decimal n) ≡ Ok n
unfolding small_number
small_is n fits = rw (number_is n (omega (arith, fits)), lt-ltb n (2 ^ 32) fits) refl

pub index_is : (ids : Ids) (n : ℕ) → n < 2 ^ 32 → index_of ids (decimal n) ≡ Ok n
unfolding index_of
index_is ids n fits = let k = spelled n (omega (arith, fits)) in rw (digits_no_id (decimal n) k.0) (small_is n fits)

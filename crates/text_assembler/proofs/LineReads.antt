-- The tokens of a line, read back as its instruction.
use Rattle.std.proofs.Common.{◌≡◌, ℕ, zero, suc, ◌-◌, ◌*◌, ◌^◌, ◌≤◌, ◌<◌, List, [], ◌∷◌, ◌++◌, length, replicate, Bool, true, false, not, ◌==◌, nat_lt, if◌then◌else◌, Result, Ok, Err, Option, Some, None, slice_get, All, codes, decimal, refl, sym, ap, ◌∙◌, arith}
use Rattle.std.proofs.Math.Pow.{pow-lt}
use Rattle.std.proofs.lemmas.Bool.{ne_eqb, eqb-true, le-leb, lt-ltb, ltb-false, agree_below_at, true≢false}
use Rattle.std.proofs.lemmas.List.Elements.{All-head, All-tail}
use Rattle.wasm_ast.specs.declared.values.FuncType.{FuncType}
use Rattle.wasm_ast.specs.declared.values.Value.TheVariants.{I32, I64}
use Rattle.wasm_ast.specs.declared.instr.MemArg.{MemArg}
use Rattle.wasm_ast.specs.declared.instr.Simple.{Simple}
use Rattle.wasm_ast.specs.declared.instr.Simple.TheVariants as instr
use Rattle.wasm_ast.specs.Syntax.{simple}
use Rattle.wasm_ast.specs.Access.{load_bytes, store_bytes}
use Rattle.wasm_ast.specs.Ranged.{IsU32, RangedSimple}
use Rattle.text_assembler.specs.declared.fault.Fault.{Fault}
use Rattle.text_assembler.specs.declared.token.Lexeme.TheVariants.{Open, Close, Word}
use Rattle.text_assembler.specs.declared.scopes.Scopes.{Scopes}
use Rattle.text_assembler.specs.Reading.{read_some, read_parts}
use Rattle.text_assembler.specs.Characters.{is_between, plus, minus}
use Rattle.text_assembler.specs.Numbers.{number, constant}
use Rattle.text_assembler.specs.Words.{keyword_word}
use Rattle.text_assembler.specs.Names.{Ids}
use Rattle.text_assembler.specs.Tokens.{is_empty, tokens_of}
use Rattle.text_assembler.specs.Phrases.{Tokens, skip_open, skip_close, take_word, begins_word, skip_word, begins_group, skip_group, begins_index, is_past_indices, read_index, one_index, read_indices, read_results, read_bindings}
use Rattle.text_assembler.specs.Instructions.{params_of_use, read_type_index, read_use, are_nameless, read_nameless_use, read_call_indirect, read_br_table, exponent_from, digits_after, with_digits, read_option, read_mem_arg, read_const, with_index, read_immediates, read_simple, read_op, Bodies}
use Rattle.wasm_ast.specs.Numerals.{signed}
use Rattle.text_assembler.specs.Lines.{keyword_for, line_of, operands, HasAlignment, IsWritten, read_instr_line}
use Rattle.text_assembler.proofs.Immediates.{last_is}
use Rattle.text_assembler.proofs.Scanning.{scans_all, after_word_of, both}
use Rattle.text_assembler.proofs.Decimals.{are_digits, spelled, number_is, small_is, index_is, digits_index}
use Rattle.text_assembler.proofs.ReadBack.{is_read_back}
use Rattle.text_assembler.proofs.LineScans.{word, words, offset_words, align_words, access_words, operand_words, operands_scan, operands_apart}

-- ---- indices

index_read : (ids : Ids) (make : ℕ → Simple) (n : ℕ) → n < 2 ^ 32 → with_index ids make (word n ∷ []) ≡ Ok (make n, [])
unfolding with_index read_index take_word
index_read ids make n fits = rw (index_is ids n fits) refl

one_read : (ids : Ids) (n : ℕ) (ts : Tokens) → n < 2 ^ 32 → one_index ids (word n ∷ ts) ≡ Ok (n ∷ [], ts)
unfolding one_index read_index take_word
one_read ids n ts fits = rw (index_is ids n fits) refl

not_past : (n : ℕ) (ts : Tokens) → n < 2 ^ 32 → is_past_indices (word n ∷ ts) ≡ false
unfolding begins_index
not_past n ts fits = let k = spelled n (omega (arith, fits)) in ap not (digits_index (decimal n) k.1 k.0)

table_read :
    (ids : Ids) (ns : List ℕ) (m : ℕ) → All IsU32 ns → m < 2 ^ 32
    → read_some is_past_indices (one_index ids) (length (words ns m)) (words ns m) ≡ Ok (ns ++ m ∷ [], [])
unfolding read_some begins_index
table_read ids [] m all fits = rw (not_past m [] fits, one_read ids m [] fits) refl
table_read ids (n ∷ ns) m all fits =
    let small = All-head IsU32 n ns all in
    rw (
      not_past n (words ns m) small,
      one_read ids n (words ns m) small,
      table_read ids ns m (All-tail IsU32 n ns all) fits,
    ) refl

br_table_read :
    (ids : Ids) (ns : List ℕ) (m : ℕ) → All IsU32 ns → m < 2 ^ 32
    → read_br_table ids (words ns m) ≡ Ok (instr.BrTable m ns, [])
unfolding read_br_table read_indices read_parts
br_table_read ids ns m all fits = rw (table_read ids ns m all fits, last_is ns m) refl

-- ---- uses of types

nameless : (k : ℕ) → are_nameless (replicate k None) ≡ true
unfolding are_nameless
nameless zero = refl
nameless (suc k) = nameless k

abbrev pub use_words : ℕ → Tokens → Tokens
use_words n ts = Open ∷ Word (codes "type") ∷ word n ∷ Close ∷ ts

type_read : (s : Scopes) (n : ℕ) (t : Option FuncType) → n < 2 ^ 32 → slice_get s.signatures n ≡ t → (t ≡ None → ⊥)
    → read_nameless_use s (use_words n []) ≡ Ok (n, [])
unfolding read_nameless_use read_use read_type_index skip_group skip_open skip_word begins_word read_index take_word
    skip_close read_bindings read_results read_parts read_some begins_group params_of_use
type_read s n (Some t) fits e some = rw (index_is s.types n fits, e, nameless (length t.params)) refl
type_read s n None fits e some = absurd (some refl)

-- the same before a word
type_read_before :
    (s : Scopes) (n : ℕ) (w : List ℕ) (t : Option FuncType) → n < 2 ^ 32 → slice_get s.signatures n ≡ t
    → (t ≡ None → ⊥)
    → read_nameless_use s (use_words n (Word w ∷ [])) ≡ Ok (n, Word w ∷ [])
unfolding read_nameless_use read_use read_type_index skip_group skip_open skip_word begins_word read_index take_word
    skip_close read_bindings read_results read_parts read_some begins_group params_of_use
type_read_before s n w (Some t) fits e some = rw (index_is s.types n fits, e, nameless (length t.params)) refl
type_read_before s n w None fits e some = absurd (some refl)

is_within : (ts : List FuncType) (n : ℕ) → n < length ts → slice_get ts n ≡ None → ⊥
is_within [] n lt e = omega (arith, lt)
is_within (t ∷ ts) zero lt e = cc
is_within (t ∷ ts) (suc n) lt e = is_within ts n (omega (arith, lt)) e

pub use_read :
    (s : Scopes) (n : ℕ) (w : List ℕ) → n < 2 ^ 32 → n < length s.signatures
    → read_nameless_use s (use_words n (Word w ∷ [])) ≡ Ok (n, Word w ∷ [])
use_read s n w fits lt =
    type_read_before s n w (slice_get s.signatures n) fits refl (λ e. is_within s.signatures n lt e)

call_read :
    (s : Scopes) (n : ℕ) → n < 2 ^ 32 → n < length s.signatures
    → read_call_indirect s (use_words n []) ≡ Ok (instr.CallIndirect n, [])
unfolding read_call_indirect
call_read s n fits lt =
    rw (type_read s n (slice_get s.signatures n) fits refl (λ e. is_within s.signatures n lt e)) refl

-- ---- constants

other_sign : (c e : ℕ) → is_between 0x30 0x39 c ≡ true → is_between 0x30 0x39 e ≡ false → (c == e) ≡ false
other_sign c e h k = ne_eqb c e (λ p. true≢false (sym h ∙ ap (is_between 0x30 0x39) p ∙ k))

plain_constant :
    (bits : ℕ) (ds : List ℕ) (n : ℕ) → are_digits ds ≡ true → is_empty ds ≡ false → number ds ≡ Ok n → n < 2 ^ bits
    → constant bits ds ≡ Ok n
unfolding constant
plain_constant bits [] n h e m fits = cc
plain_constant bits (c ∷ ds) n h e m fits =
    let k = (both (is_between 0x30 0x39 c) (are_digits ds) h).0 in
    rw (other_sign c plus k refl, other_sign c minus k refl, m, lt-ltb n (2 ^ bits) fits) refl

minus_constant :
    (bits n m : ℕ) → n < 2 ^ bits → 2 ^ (bits - 1) ≤ n → 2 ^ bits ≡ 2 * 2 ^ (bits - 1) → m ≡ 2 ^ bits - n → m < 2 ^ 64
    → constant bits (codes "-" ++ decimal m) ≡ Ok n
unfolding constant
minus_constant bits n m fits le twice e small =
    let half : m ≤ 2 ^ (bits - 1) = omega (arith, e, twice, le) in
    let positive : m ≡ 0 → ⊥ = λ z. omega (arith, e, z, fits) in
    let back : 2 ^ bits - m ≡ n = omega (arith, e, fits) in
    rw (number_is m small, le-leb m (2 ^ (bits - 1)) half, ne_eqb m 0 positive, back) refl

constant_by :
    (bits n : ℕ) (b : Bool) → nat_lt n (2 ^ (bits - 1)) ≡ b → n < 2 ^ bits → n < 2 ^ 64 → 2 ^ bits ≡ 2 * 2 ^ (bits - 1)
    → (2 ^ (bits - 1) ≤ n → 2 ^ bits - n < 2 ^ 64)
    → constant bits (if b then decimal n else codes "-" ++ decimal (2 ^ bits - n)) ≡ Ok n
constant_by bits n true h fits wide twice small =
    let k = spelled n wide in plain_constant bits (decimal n) n k.0 k.1 (number_is n wide) fits
constant_by bits n false h fits wide twice small =
    let le = ltb-false n (2 ^ (bits - 1)) h in
    minus_constant bits n (2 ^ bits - n) fits le twice refl (small le)

constant32 : (n : ℕ) → n < 2 ^ 32 → constant 32 (signed 32 n) ≡ Ok n
constant32 n fits = constant_by 32 n (nat_lt n (2 ^ (32 - 1))) refl fits (omega (arith, fits)) refl (λ le. omega arith)

constant64 : (n : ℕ) → n < 2 ^ 64 → constant 64 (signed 64 n) ≡ Ok n
constant64 n fits = constant_by 64 n (nat_lt n (2 ^ (64 - 1))) refl fits fits refl (λ le. omega (arith, le))

-- ---- offsets and alignments

same : Result ℕ Fault → ℕ → Bool
same (Ok n) m = n == m
same (Err f) m = false

is_same : (r : Result ℕ Fault) (m : ℕ) → same r m ≡ true → r ≡ Ok m
unfolding same
is_same (Ok n) m h = ap Ok (eqb-true n m h)
is_same (Err f) m h = cc

exponent_is : (a : ℕ) → a < 32 → exponent_from 32 0 (2 ^ a) ≡ Ok a
unfolding same exponent_from
exponent_is a lt =
    is_same (exponent_from 32 0 (2 ^ a)) a
    (agree_below_at (λ k. same (exponent_from 32 0 (2 ^ k)) k) (λ k. true) 32 a refl lt)

access_by : (natural a o : ℕ) (b c : Bool) → a < 32 → o < 2 ^ 32 → (o == 0) ≡ b → (2 ^ a == natural) ≡ c
    → read_mem_arg natural (offset_words b o ++ align_words c (2 ^ a)) ≡ Ok (record { align = a; offset = o }, [])
unfolding read_mem_arg read_option digits_after with_digits
access_by natural a o true true lt fits z e =
    rw (sym (eqb-true (2 ^ a) natural e), exponent_is a lt, eqb-true o 0 z) refl
access_by natural a o false true lt fits z e =
    rw (small_is o fits, sym (eqb-true (2 ^ a) natural e), exponent_is a lt) refl
access_by natural a o true false lt fits z e =
    let p : 2 ^ a < 2 ^ 32 = pow-lt lt in
    rw (small_is (2 ^ a) p, exponent_is a lt, eqb-true o 0 z) refl
access_by natural a o false false lt fits z e =
    let p : 2 ^ a < 2 ^ 32 = pow-lt lt in
    rw (small_is o fits, small_is (2 ^ a) p, exponent_is a lt) refl

access_read :
    (natural : ℕ) (at : MemArg) → at.align < 32 → at.offset < 2 ^ 32
    → read_mem_arg natural (access_words natural at) ≡ Ok (at, [])
access_read natural at lt fits =
    access_by natural at.align at.offset (at.offset == 0) (2 ^ at.align == natural) lt fits refl refl

-- ---- all instructions

pub immediates_read :
    (s : Scopes) (locals labels : Ids) (i : Simple) → RangedSimple i → HasAlignment i → IsWritten s (simple i)
    → read_immediates s locals labels (keyword_for i) (operand_words i) ≡ Ok (i, [])
unfolding read_immediates read_const take_word
immediates_read s locals labels instr.Unreachable r h w = refl
immediates_read s locals labels instr.Nop r h w = refl
immediates_read s locals labels (instr.Br label) r h w = index_read labels instr.Br label r
immediates_read s locals labels (instr.BrIf label) r h w = index_read labels instr.BrIf label r
immediates_read s locals labels (instr.BrTable other ns) r h w = br_table_read labels ns other r.0 r.1
immediates_read s locals labels instr.Return r h w = refl
immediates_read s locals labels (instr.Call func) r h w = index_read s.funcs instr.Call func r
immediates_read s locals labels (instr.CallIndirect index) r h w = call_read s index r w
immediates_read s locals labels instr.Drop r h w = refl
immediates_read s locals labels instr.Select r h w = refl
immediates_read s locals labels (instr.Local op index) r h w = index_read locals (instr.Local op) index r
immediates_read s locals labels (instr.Global op index) r h w = index_read s.globals (instr.Global op) index r
immediates_read s locals labels (instr.Load op at) r h w = rw (access_read (load_bytes op) at h r.1) refl
immediates_read s locals labels (instr.Store op at) r h w = rw (access_read (store_bytes op) at h r.1) refl
immediates_read s locals labels instr.MemorySize r h w = refl
immediates_read s locals labels instr.MemoryGrow r h w = refl
immediates_read s locals labels (instr.Const (I32 n)) r h w = rw (constant32 n r) refl
immediates_read s locals labels (instr.Const (I64 n)) r h w = rw (constant64 n r) refl
immediates_read s locals labels (instr.Unary t op) r h w = refl
immediates_read s locals labels (instr.Binary t op) r h w = refl
immediates_read s locals labels (instr.Test t op) r h w = refl
immediates_read s locals labels (instr.Compare t op) r h w = refl
immediates_read s locals labels (instr.Convert op) r h w = refl

op_read :
    (s : Scopes) (locals : Ids) (inner : Result Bodies Fault) (labels : Ids) (i : Simple) → RangedSimple i
    → HasAlignment i → IsWritten s (simple i)
    → read_op s locals inner labels (Word (keyword_word (keyword_for i)) ∷ operand_words i) ≡ Ok (simple i, [])
unfolding read_op take_word read_simple
op_read s locals inner labels i r h w =
    let k = is_read_back (keyword_for i) in
    rw (k.simple, k.found, immediates_read s locals labels i r h w) refl

line_scans :
    (i : Simple) → RangedSimple i → HasAlignment i
    → tokens_of (line_of (simple i)) ≡ Ok (Word (keyword_word (keyword_for i)) ∷ operand_words i)
line_scans i r h =
    let k = is_read_back (keyword_for i) in
    scans_all (line_of (simple i)) (Word (keyword_word (keyword_for i)) ∷ operand_words i)
    (after_word_of (keyword_word (keyword_for i)) (operands i) (operand_words i) k.nonempty k.wordlike
    (operands_apart i) (operands_scan i r h))

pub line_read :
    (i : Simple) (s : Scopes) (locals : Ids) (inner : Result Bodies Fault) (labels : Ids) → RangedSimple i
    → HasAlignment i → IsWritten s (simple i)
    → read_instr_line s locals inner labels (line_of (simple i)) ≡ Ok (simple i, [])
line_read i s locals inner labels r h w = rw (line_scans i r h) (op_read s locals inner labels i r h w)

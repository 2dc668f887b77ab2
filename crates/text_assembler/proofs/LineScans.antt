-- The tokens of what follows the word of an instruction in its line.
use Rattle.std.proofs.Common.{◌≡◌, ℕ, ◌-◌, ◌^◌, ◌≤◌, ◌<◌, List, [], ◌∷◌, ◌++◌, Bool, true, false, ◌==◌, nat_lt, if◌then◌else◌, All, codes, decimal, refl, subst, append_assoc, arith}
use Rattle.std.proofs.Math.Pow.{pow-lt}
use Rattle.std.proofs.lemmas.Bool.{ltb-false}
use Rattle.std.proofs.lemmas.List.{append-nil}
use Rattle.std.proofs.lemmas.List.Elements.{All-head, All-tail}
use Rattle.std.specs.List.{flat_map}
use Rattle.wasm_ast.specs.declared.values.Value.TheVariants.{I32, I64}
use Rattle.wasm_ast.specs.declared.instr.MemArg.{MemArg}
use Rattle.wasm_ast.specs.declared.instr.Simple.{Simple}
use Rattle.wasm_ast.specs.declared.instr.Simple.TheVariants as instr
use Rattle.wasm_ast.specs.Access.{load_bytes, store_bytes}
use Rattle.wasm_ast.specs.Ranged.{IsU32, RangedSimple}
use Rattle.text_assembler.specs.declared.token.Lexeme.{Lexeme}
use Rattle.text_assembler.specs.declared.token.Lexeme.TheVariants.{Open, Close, Word}
use Rattle.text_assembler.specs.Tokens.{is_apart, is_empty}
use Rattle.wasm_ast.specs.Numerals.{signed}
use Rattle.text_assembler.specs.Lines.{numbered, offset_part, align_part, operands, HasAlignment}
use Rattle.text_assembler.proofs.Scanning.{Scans, ended, after_space, after_open, after_close, after_word_of, is_wordlike}
use Rattle.text_assembler.proofs.Decimals.{spelled, digits_wordlike}

abbrev pub word : ℕ → Lexeme
word n = Word (decimal n)

-- labels, and one more
abbrev pub words : List ℕ → ℕ → List Lexeme
words [] m = word m ∷ []
words (n ∷ ns) m = word n ∷ words ns m

abbrev pub offset_words : (left_out : Bool) → ℕ → List Lexeme
offset_words true n = []
offset_words false n = Word (codes "offset=" ++ decimal n) ∷ []

abbrev pub align_words : (left_out : Bool) → ℕ → List Lexeme
align_words true n = []
align_words false n = Word (codes "align=" ++ decimal n) ∷ []

abbrev pub access_words : (natural : ℕ) → MemArg → List Lexeme
access_words natural at =
    offset_words (at.offset == 0) at.offset ++ align_words (2 ^ at.align == natural) (2 ^ at.align)

-- the tokens of the operands
abbrev pub operand_words : Simple → List Lexeme
operand_words (instr.Br label) = word label ∷ []
operand_words (instr.BrIf label) = word label ∷ []
operand_words (instr.BrTable other labels) = words labels other
operand_words (instr.Call func) = word func ∷ []
operand_words (instr.CallIndirect index) = Open ∷ Word (codes "type") ∷ word index ∷ Close ∷ []
operand_words (instr.Local op index) = word index ∷ []
operand_words (instr.Global op index) = word index ∷ []
operand_words (instr.Load op at) = access_words (load_bytes op) at
operand_words (instr.Store op at) = access_words (store_bytes op) at
operand_words (instr.Const (I32 n)) = Word (signed 32 n) ∷ []
operand_words (instr.Const (I64 n)) = Word (signed 64 n) ∷ []
operand_words other = []

-- ---- numbers

pub decimal_wordlike : (n : ℕ) → n < 2 ^ 64 → is_wordlike (decimal n) ≡ true
decimal_wordlike n fits = digits_wordlike (decimal n) (spelled n fits).0

number_then :
    (n : ℕ) (rest : List ℕ) (ts : List Lexeme) → n < 2 ^ 64 → is_apart rest ≡ true → Scans rest ts
    → Scans (0x20 ∷ decimal n ++ rest) (word n ∷ ts)
number_then n rest ts fits a s =
    after_space (decimal n ++ rest) (word n ∷ ts)
    (after_word_of (decimal n) rest ts (spelled n fits).1 (decimal_wordlike n fits) a s)

pub last_word : (w : List ℕ) → is_empty w ≡ false → is_wordlike w ≡ true → Scans (0x20 ∷ w) (Word w ∷ [])
unfolding is_apart
last_word w e h =
    after_space w (Word w ∷ [])
    (subst (λ (text : List ℕ). Scans text (Word w ∷ [])) (append-nil w) (after_word_of w [] [] e h refl ended))

number_scans : (n : ℕ) → n < 2 ^ 32 → Scans (numbered n) (word n ∷ [])
number_scans n fits =
    let k = spelled n (omega (arith, fits)) in last_word (decimal n) k.1 (decimal_wordlike n (omega (arith, fits)))

table_apart : (ns : List ℕ) (m : ℕ) → is_apart (flat_map numbered ns ++ numbered m) ≡ true
unfolding is_apart
table_apart [] m = refl
table_apart (n ∷ ns) m = refl

table_scans :
    (ns : List ℕ) (m : ℕ) → All IsU32 ns → m < 2 ^ 32 → Scans (flat_map numbered ns ++ numbered m) (words ns m)
table_scans [] m all fits = number_scans m fits
table_scans (n ∷ ns) m all fits =
    let small : n < 2 ^ 64 = omega (arith, All-head IsU32 n ns all) in
    rw (append_assoc (decimal n) (flat_map numbered ns) (numbered m))
    (number_then n (flat_map numbered ns ++ numbered m) (words ns m) small (table_apart ns m)
    (table_scans ns m (All-tail IsU32 n ns all) fits))

pub use_scans :
    (n : ℕ) (rest : List ℕ) (ts : List Lexeme) → n < 2 ^ 32 → Scans rest ts
    → Scans (codes " (type " ++ (decimal n ++ 0x29 ∷ rest)) (Open ∷ Word (codes "type") ∷ word n ∷ Close ∷ ts)
unfolding is_apart
use_scans n rest ts fits s =
    let number = number_then n (0x29 ∷ rest) (Close ∷ ts) (omega (arith, fits)) refl (after_close rest ts s) in
    after_space (codes "(type " ++ (decimal n ++ 0x29 ∷ rest)) (Open ∷ Word (codes "type") ∷ word n ∷ Close ∷ ts)
    (after_open 0x74 (codes "ype " ++ (decimal n ++ 0x29 ∷ rest)) (Word (codes "type") ∷ word n ∷ Close ∷ ts) refl
    (after_word_of (codes "type") (codes " " ++ (decimal n ++ 0x29 ∷ rest)) (word n ∷ Close ∷ ts) refl refl refl
    number))

-- ---- constants

signed_word :
    (bits n : ℕ) (b : Bool) → n < 2 ^ 64 → (b ≡ false → 2 ^ bits - n < 2 ^ 64)
    → (is_empty (if b then decimal n else codes "-" ++ decimal (2 ^ bits - n)) ≡ false)
    × (is_wordlike (if b then decimal n else codes "-" ++ decimal (2 ^ bits - n)) ≡ true)
signed_word bits n true fits small = ((spelled n fits).1, decimal_wordlike n fits)
signed_word bits n false fits small = (refl, decimal_wordlike (2 ^ bits - n) (small refl))

-- ---- offsets and alignments

align_scans : (b : Bool) (n : ℕ) → n < 2 ^ 64 → Scans (if b then [] else codes " align=" ++ decimal n) (align_words b n)
align_scans true n fits = ended
align_scans false n fits = last_word (codes "align=" ++ decimal n) refl (decimal_wordlike n fits)

align_apart : (b : Bool) (n : ℕ) → is_apart (if b then [] else codes " align=" ++ decimal n) ≡ true
unfolding is_apart
align_apart true n = refl
align_apart false n = refl

access_by : (b c : Bool) (n m : ℕ) → n < 2 ^ 64 → m < 2 ^ 64
    → Scans ((if b then [] else codes " offset=" ++ decimal n) ++ (if c then [] else codes " align=" ++ decimal m))
    (offset_words b n ++ align_words c m)
access_by true c n m small fits = align_scans c m fits
access_by false c n m small fits =
    after_space (codes "offset=" ++ decimal n ++ (if c then [] else codes " align=" ++ decimal m))
    (Word (codes "offset=" ++ decimal n) ∷ align_words c m)
    (after_word_of (codes "offset=" ++ decimal n) (if c then [] else codes " align=" ++ decimal m) (align_words c m)
    refl (decimal_wordlike n small) (align_apart c m) (align_scans c m fits))

access_scans :
    (natural : ℕ) (at : MemArg) → at.align < 32 → at.offset < 2 ^ 32
    → Scans (offset_part at ++ align_part natural at) (access_words natural at)
access_scans natural at lt fits =
    let p : 2 ^ at.align < 2 ^ 32 = pow-lt lt in
    access_by (at.offset == 0) (2 ^ at.align == natural) at.offset (2 ^ at.align) (omega (arith, fits))
    (omega (arith, p))

apart_by :
    (b c : Bool) (n m : ℕ)
    → is_apart ((if b then [] else codes " offset=" ++ decimal n) ++ (if c then [] else codes " align=" ++ decimal m))
    ≡ true
unfolding is_apart
apart_by true c n m = align_apart c m
apart_by false c n m = refl

access_apart : (natural : ℕ) (at : MemArg) → is_apart (offset_part at ++ align_part natural at) ≡ true
access_apart natural at = apart_by (at.offset == 0) (2 ^ at.align == natural) at.offset (2 ^ at.align)

-- ---- all operands

pub operands_scan : (i : Simple) → RangedSimple i → HasAlignment i → Scans (operands i) (operand_words i)
operands_scan instr.Unreachable r h = ended
operands_scan instr.Nop r h = ended
operands_scan (instr.Br label) r h = number_scans label r
operands_scan (instr.BrIf label) r h = number_scans label r
operands_scan (instr.BrTable other labels) r h = table_scans labels other r.0 r.1
operands_scan instr.Return r h = ended
operands_scan (instr.Call func) r h = number_scans func r
operands_scan (instr.CallIndirect index) r h = use_scans index [] [] r ended
operands_scan instr.Drop r h = ended
operands_scan instr.Select r h = ended
operands_scan (instr.Local op index) r h = number_scans index r
operands_scan (instr.Global op index) r h = number_scans index r
operands_scan (instr.Load op at) r h = access_scans (load_bytes op) at h r.1
operands_scan (instr.Store op at) r h = access_scans (store_bytes op) at h r.1
operands_scan instr.MemorySize r h = ended
operands_scan instr.MemoryGrow r h = ended
operands_scan (instr.Const (I32 n)) r h =
    let k =
    signed_word 32 n (nat_lt n (2 ^ (32 - 1))) (omega (arith, r)) (λ e. omega arith) in last_word (signed 32 n) k.0 k.1
operands_scan (instr.Const (I64 n)) r h =
    let k =
    signed_word 64 n (nat_lt n (2 ^ (64 - 1))) r
    (λ e. let le : 2 ^ 63 ≤ n = ltb-false n (2 ^ 63) e in omega (arith, le)) in last_word (signed 64 n) k.0 k.1
operands_scan (instr.Unary t op) r h = ended
operands_scan (instr.Binary t op) r h = ended
operands_scan (instr.Test t op) r h = ended
operands_scan (instr.Compare t op) r h = ended
operands_scan (instr.Convert op) r h = ended

pub operands_apart : (i : Simple) → is_apart (operands i) ≡ true
unfolding is_apart
operands_apart instr.Unreachable = refl
operands_apart instr.Nop = refl
operands_apart (instr.Br label) = refl
operands_apart (instr.BrIf label) = refl
operands_apart (instr.BrTable other labels) = table_apart labels other
operands_apart instr.Return = refl
operands_apart (instr.Call func) = refl
operands_apart (instr.CallIndirect index) = refl
operands_apart instr.Drop = refl
operands_apart instr.Select = refl
operands_apart (instr.Local op index) = refl
operands_apart (instr.Global op index) = refl
operands_apart (instr.Load op at) = access_apart (load_bytes op) at
operands_apart (instr.Store op at) = access_apart (store_bytes op) at
operands_apart instr.MemorySize = refl
operands_apart instr.MemoryGrow = refl
operands_apart (instr.Const (I32 n)) = refl
operands_apart (instr.Const (I64 n)) = refl
operands_apart (instr.Unary t op) = refl
operands_apart (instr.Binary t op) = refl
operands_apart (instr.Test t op) = refl
operands_apart (instr.Compare t op) = refl
operands_apart (instr.Convert op) = refl

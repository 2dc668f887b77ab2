-- Instructions, runs of locals, entries and custom sections read one after the other, as loops do.
use Rattle.std.proofs.Common.{◌≡◌, ℕ, zero, suc, ◌-◌, ◌+◌, ◌≤◌, ◌<◌, List, [], ◌∷◌, ◌++◌, length, drop, get_or, replicate, Result, Ok, Err, true, false, refl, sym, ap, ◌∙◌, append_assoc, arith}
use Rattle.std.proofs.lemmas.Bool.{lt-ltb, le-ltb}
use Rattle.std.proofs.lemmas.List.{append-nil, drop_more, drop_all}
use Rattle.wasm_ast.specs.declared.values.ValType.{ValType}
use Rattle.wasm_ast.specs.declared.values.FuncType.{FuncType}
use Rattle.wasm_ast.specs.declared.module.Func.{Func}
use Rattle.wasm_ast.specs.Syntax.{Op}
use Rattle.wasm_ast.specs.Limits.{max_locals, params_of}
use Rattle.wasm_binary.specs.declared.fault.Fault.{Fault}
use Rattle.wasm_binary.specs.declared.fault.Fault.TheVariants.{Bad, Over}
use Rattle.wasm_binary.specs.declared.fault.ReadError.{ReadError}
use Rattle.wasm_binary.specs.declared.fault.ReadError.TheVariants as errors
use Rattle.wasm_binary.specs.Opcodes.{custom_section}
use Rattle.wasm_binary.specs.Inside.Reading.{◌>>=◌, Fails, Read, Inner, begins_with, is_end, read_byte, opens_block, read_nested, read_with_opcode, read_op, read_ops, read_body, inner_of, read_u32, read_val_type, read_runs, read_sized, read_code, read_entries, skip_custom, skip_some_customs}
use Rattle.wasm_binary.proofs.ItemLoop.{with_front, regroup}

-- ---- instructions

pub op_goes_on :
    (inner : Inner) (front : List Op) (most i : ℕ) (bytes : List ℕ) (o : Op) (after : List ℕ) (total : Read (List Op))
    → i < most → is_end bytes ≡ false → read_op inner bytes ≡ Ok (o, after)
    → with_front front (read_ops inner (most - i) bytes) ≡ total
    → with_front (front ++ o ∷ []) (read_ops inner (most - (i + 1)) after) ≡ total
unfolding read_ops
op_goes_on inner front most i bytes o after total lt e h so_far =
    let k : most - i ≡ suc (most - (i + 1)) = omega arith in
    let one :
    with_front front (read_ops inner (most - i) bytes)
    ≡ with_front (front ++ o ∷ []) (read_ops inner (most - (i + 1)) after) =
    rw (k, e, h) (regroup front o (read_ops inner (most - (i + 1)) after)) in
    sym one ∙ so_far

pub op_fails :
    (inner : Inner) (e : ReadError) (front : List Op) (most i : ℕ) (bytes : List ℕ) (total : Read (List Op)) → i < most
    → is_end bytes ≡ false → Fails e (read_op inner bytes)
    → with_front front (read_ops inner (most - i) bytes) ≡ total → Fails e total
unfolding read_ops
op_fails inner errors.Memory front most i bytes total lt b h so_far = tt
op_fails inner (errors.Fault f s) front most i bytes total lt b h so_far =
    let k : most - i ≡ suc (most - (i + 1)) = omega arith in
    let one : with_front front (read_ops inner (most - i) bytes) ≡ Err f = rw (k, b, h) refl in
    sym so_far ∙ one

pub ops_end :
    (inner : Inner) (front : List Op) (most i : ℕ) (bytes : List ℕ) (total : Read (List Op)) → i < most
    → is_end bytes ≡ true
    → with_front front (read_ops inner (most - i) bytes) ≡ total → total ≡ Ok (front, bytes)
unfolding read_ops
ops_end inner front most i bytes total lt b so_far =
    let k : most - i ≡ suc (most - (i + 1)) = omega arith in
    let one :
    with_front front (read_ops inner (most - i) bytes) ≡ Ok (front, bytes) =
    rw (k, b) (ap (λ (os : List Op). Ok (os, bytes)) (append-nil front)) in
    sym so_far ∙ one

pub ops_run_out : (inner : Inner) (front : List Op) (most i : ℕ) (bytes : List ℕ) (total : Read (List Op)) → most ≤ i
    → with_front front (read_ops inner (most - i) bytes) ≡ total → total ≡ Err Bad
unfolding read_ops
ops_run_out inner front most i bytes total le so_far =
    let k : most - i ≡ 0 = omega arith in
    let one : with_front front (read_ops inner (most - i) bytes) ≡ Err Bad = rw k refl in
    sym so_far ∙ one

-- a body is read with what may be inside
pub body_is : (more : ℕ) (bytes : List ℕ) → read_body more bytes ≡ read_ops (inner_of more) (length bytes) bytes
unfolding read_body inner_of
body_is zero bytes = refl
body_is (suc more) bytes = refl

pub inner_some : (more : ℕ) → 0 < more → inner_of more ≡ Ok (read_body (more - 1))
unfolding inner_of
inner_some zero lt = absurd (omega arith)
inner_some (suc more) lt = let e : suc more - 1 ≡ more = omega arith in ap (λ (m : ℕ). Ok (read_body m)) (sym e)

pub inner_none : (more : ℕ) → more ≡ 0 → inner_of more ≡ Err Over
unfolding inner_of
inner_none zero e = refl
inner_none (suc more) e = absurd (omega arith)

-- where blocks are opened
pub block_over :
    (more : ℕ) (bytes : List ℕ) (b : ℕ) (rest : List ℕ) → read_byte bytes ≡ Ok (b, rest) → opens_block b ≡ true
    → more ≡ 0 → read_op (inner_of more) bytes ≡ Err Over
unfolding read_op read_with_opcode
block_over more bytes b rest h o e = rw (h, o, inner_none more e) refl

pub block_read :
    (more : ℕ) (bytes : List ℕ) (b : ℕ) (rest : List ℕ) → read_byte bytes ≡ Ok (b, rest) → opens_block b ≡ true
    → 0 < more → read_op (inner_of more) bytes ≡ read_nested (read_body (more - 1)) b rest
unfolding read_op read_with_opcode
block_read more bytes b rest h o lt = rw (h, o, inner_some more lt) refl

-- ---- runs of locals

regroup_run :
    (front run : List ValType) (read : Read (List ValType))
    → with_front front (read >>= λ x. Ok (run ++ x.0, x.1)) ≡ with_front (front ++ run) read
regroup_run front run (Ok x) = ap (λ (ts : List ValType). Ok (ts, x.1)) (sym (append_assoc front run x.0))
regroup_run front run (Err f) = refl

pub run_goes_on :
    (front : List ValType) (before count i : ℕ) (bytes : List ℕ) (n : ℕ) (mid : List ℕ) (t : ValType) (after : List ℕ)
    (total : Read (List ValType)) → i < count
    → read_u32 bytes ≡ Ok (n, mid) → before + n ≤ max_locals → read_val_type mid ≡ Ok (t, after)
    → with_front front (read_runs true before (count - i) bytes) ≡ total
    → with_front (front ++ replicate n t) (read_runs true (before + n) (count - (i + 1)) after) ≡ total
unfolding read_runs
run_goes_on front before count i bytes n mid t after total lt a fits b so_far =
    let k : count - i ≡ suc (count - (i + 1)) = omega arith in
    let one :
    with_front front (read_runs true before (count - i) bytes)
    ≡ with_front (front ++ replicate n t) (read_runs true (before + n) (count - (i + 1)) after) =
    rw (k, a, le-ltb max_locals (before + n) fits, b)
    (regroup_run front (replicate n t) (read_runs true (before + n) (count - (i + 1)) after)) in
    sym one ∙ so_far

pub run_count_fails :
    (e : ReadError) (front : List ValType) (before count i : ℕ) (bytes : List ℕ) (total : Read (List ValType))
    → i < count → Fails e (read_u32 bytes)
    → with_front front (read_runs true before (count - i) bytes) ≡ total → Fails e total
unfolding read_runs
run_count_fails errors.Memory front before count i bytes total lt h so_far = tt
run_count_fails (errors.Fault f s) front before count i bytes total lt h so_far =
    let k : count - i ≡ suc (count - (i + 1)) = omega arith in
    let one : with_front front (read_runs true before (count - i) bytes) ≡ Err f = rw (k, h) refl in
    sym so_far ∙ one

pub run_over :
    (front : List ValType) (before count i : ℕ) (bytes : List ℕ) (n : ℕ) (mid : List ℕ) (total : Read (List ValType))
    → i < count
    → read_u32 bytes ≡ Ok (n, mid) → max_locals < before + n
    → with_front front (read_runs true before (count - i) bytes) ≡ total → total ≡ Err Over
unfolding read_runs
run_over front before count i bytes n mid total lt a over so_far =
    let k : count - i ≡ suc (count - (i + 1)) = omega arith in
    let one :
    with_front front (read_runs true before (count - i) bytes) ≡ Err Over =
    rw (k, a, lt-ltb max_locals (before + n) over) refl in
    sym so_far ∙ one

pub run_type_fails :
    (e : ReadError) (front : List ValType) (before count i : ℕ) (bytes : List ℕ) (n : ℕ) (mid : List ℕ)
    (total : Read (List ValType)) → i < count
    → read_u32 bytes ≡ Ok (n, mid) → before + n ≤ max_locals → Fails e (read_val_type mid)
    → with_front front (read_runs true before (count - i) bytes) ≡ total → Fails e total
unfolding read_runs
run_type_fails errors.Memory front before count i bytes n mid total lt a fits h so_far = tt
run_type_fails (errors.Fault f s) front before count i bytes n mid total lt a fits h so_far =
    let k : count - i ≡ suc (count - (i + 1)) = omega arith in
    let one :
    with_front front (read_runs true before (count - i) bytes) ≡ Err f =
    rw (k, a, le-ltb max_locals (before + n) fits, h) refl in
    sym so_far ∙ one

pub runs_done : (front : List ValType) (before count i : ℕ) (bytes : List ℕ) (total : Read (List ValType)) → count ≤ i
    → with_front front (read_runs true before (count - i) bytes) ≡ total → total ≡ Ok (front, bytes)
unfolding read_runs
runs_done front before count i bytes total le so_far =
    let k : count - i ≡ 0 = omega arith in
    let one :
    with_front front (read_runs true before (count - i) bytes) ≡ Ok (front, bytes) =
    rw k (ap (λ (ts : List ValType). Ok (ts, bytes)) (append-nil front)) in
    sym so_far ∙ one

-- ---- entries

abbrev pub entry_at : List FuncType → (index : ℕ) → List ℕ → Read Func
entry_at types index bytes = read_sized (read_code true (params_of types index) index) bytes

pub code_goes_on :
    (types : List FuncType) (front : List Func) (indices : List ℕ) (i index : ℕ) (bytes : List ℕ) (f : Func)
    (after : List ℕ) (total : Read (List Func)) → i < length indices
    → index ≡ get_or indices i 0 → entry_at types index bytes ≡ Ok (f, after)
    → with_front front (read_entries true types (drop i indices) bytes) ≡ total
    → with_front (front ++ f ∷ []) (read_entries true types (drop (i + 1) indices) after) ≡ total
unfolding read_entries
code_goes_on types front indices i index bytes f after total lt is h so_far =
    let k :
    drop i indices ≡ index ∷ drop (i + 1) indices =
    drop_more indices i 0 lt ∙ ap (λ n. n ∷ drop (i + 1) indices) (sym is) in
    let one :
    with_front front (read_entries true types (drop i indices) bytes)
    ≡ with_front (front ++ f ∷ []) (read_entries true types (drop (i + 1) indices) after) =
    rw (k, h) (regroup front f (read_entries true types (drop (i + 1) indices) after)) in
    sym one ∙ so_far

pub code_fails :
    (types : List FuncType) (e : ReadError) (front : List Func) (indices : List ℕ) (i index : ℕ) (bytes : List ℕ)
    (total : Read (List Func)) → i < length indices
    → index ≡ get_or indices i 0 → Fails e (entry_at types index bytes)
    → with_front front (read_entries true types (drop i indices) bytes) ≡ total → Fails e total
unfolding read_entries
code_fails types errors.Memory front indices i index bytes total lt is h so_far = tt
code_fails types (errors.Fault f s) front indices i index bytes total lt is h so_far =
    let k :
    drop i indices ≡ index ∷ drop (i + 1) indices =
    drop_more indices i 0 lt ∙ ap (λ n. n ∷ drop (i + 1) indices) (sym is) in
    let one : with_front front (read_entries true types (drop i indices) bytes) ≡ Err f = rw (k, h) refl in
    sym so_far ∙ one

pub codes_done :
    (types : List FuncType) (front : List Func) (indices : List ℕ) (i : ℕ) (bytes : List ℕ) (total : Read (List Func))
    → length indices ≤ i
    → with_front front (read_entries true types (drop i indices) bytes) ≡ total → total ≡ Ok (front, bytes)
unfolding read_entries
codes_done types front indices i bytes total le so_far =
    let one :
    with_front front (read_entries true types (drop i indices) bytes) ≡ Ok (front, bytes) =
    rw (drop_all i indices le) (ap (λ (fs : List Func). Ok (fs, bytes)) (append-nil front)) in
    sym so_far ∙ one

-- ---- custom sections

pub custom_goes_on :
    (most i : ℕ) (bytes after : List ℕ) (total : Result (List ℕ) Fault) → i < most
    → begins_with custom_section bytes ≡ true → skip_custom (drop 1 bytes) ≡ Ok after
    → skip_some_customs (most - i) bytes ≡ total → skip_some_customs (most - (i + 1)) after ≡ total
unfolding skip_some_customs
custom_goes_on most i bytes after total lt b h so_far =
    let k : most - i ≡ suc (most - (i + 1)) = omega arith in
    let one : skip_some_customs (most - i) bytes ≡ skip_some_customs (most - (i + 1)) after = rw (k, b, h) refl in
    sym one ∙ so_far

pub custom_fails :
    (e : ReadError) (most i : ℕ) (bytes : List ℕ) (total : Result (List ℕ) Fault) → i < most
    → begins_with custom_section bytes ≡ true → Fails e (skip_custom (drop 1 bytes))
    → skip_some_customs (most - i) bytes ≡ total → Fails e total
unfolding skip_some_customs
custom_fails errors.Memory most i bytes total lt b h so_far = tt
custom_fails (errors.Fault f s) most i bytes total lt b h so_far =
    let k : most - i ≡ suc (most - (i + 1)) = omega arith in
    let one : skip_some_customs (most - i) bytes ≡ Err f = rw (k, b, h) refl in
    sym so_far ∙ one

pub customs_end :
    (most i : ℕ) (bytes : List ℕ) (total : Result (List ℕ) Fault) → i < most → begins_with custom_section bytes ≡ false
    → skip_some_customs (most - i) bytes ≡ total → total ≡ Ok bytes
unfolding skip_some_customs
customs_end most i bytes total lt b so_far =
    let k : most - i ≡ suc (most - (i + 1)) = omega arith in
    let one : skip_some_customs (most - i) bytes ≡ Ok bytes = rw (k, b) refl in
    sym so_far ∙ one

pub customs_run_out : (most i : ℕ) (bytes : List ℕ) (total : Result (List ℕ) Fault) → most ≤ i
    → skip_some_customs (most - i) bytes ≡ total → total ≡ Ok bytes
unfolding skip_some_customs
customs_run_out most i bytes total le so_far =
    let k : most - i ≡ 0 = omega arith in
    let one : skip_some_customs (most - i) bytes ≡ Ok bytes = rw k refl in
    sym so_far ∙ one

-- The list of instructions that `check` writes, and the alignments in it.
use Rattle.std.proofs.Common.{◌≡◌, ◌⊎◌, inl, inr, ℕ, zero, suc, ◌+◌, ◌^◌, ◌<◌, ◌≤◌, List, [], ◌∷◌, ◌++◌, All, Some, length, map, drop, get_or, reverse, refl, sym, ap, ◌∙◌, append_assoc, arith}
use Rattle.std.proofs.lemmas.List.Elements.{All-nil, All-cons, All-head, All-tail}
use Rattle.std.proofs.Math.Pow.{pow_mono}
use Rattle.std.specs.Prelude.{slice_get}
use Rattle.wasm_ast.specs.declared.values.ValType.{ValType}
use Rattle.wasm_ast.specs.declared.values.FuncType.{FuncType}
use Rattle.wasm_ast.specs.declared.operators.LoadOp.{LoadOp}
use Rattle.wasm_ast.specs.declared.operators.LoadOp.TheVariants as load
use Rattle.wasm_ast.specs.declared.operators.StoreOp.{StoreOp}
use Rattle.wasm_ast.specs.declared.operators.StoreOp.TheVariants as store
use Rattle.wasm_ast.specs.declared.instr.Instr.{Instr}
use Rattle.wasm_ast.specs.declared.instr.Simple.{Simple}
use Rattle.wasm_ast.specs.declared.instr.Simple.TheVariants as instr
use Rattle.wasm_ast.specs.declared.module.Func.{Func}
use Rattle.wasm_ast.specs.declared.module.Module.{Module}
use Rattle.wasm_ast.specs.Access.{load_bytes, store_bytes}
use Rattle.wasm_ast.specs.Syntax.{Op, simple, block, loop, if', Ops, stop, next, count, ops_count, ops_of}
use Rattle.wasm_ast.specs.View.{op_of}
use Rattle.text_assembler.specs.Lines.{HasAlignment}
use Rattle.validator.specs.Typing.{Context, under, SimpleTyped, Typed, OpTyped, ValidBody, ValidModule, body_context}
use Rattle.file_commands.specs.Checked.{op_lines, ops_lines}
use Rattle.file_commands.specs.Inside.Written.{OpAligned, OpsAligned}

-- ---- alignments

below_or : (a b : ℕ) → (a < b) ⊎ (b ≤ a)
below_or a zero = inr (omega arith)
below_or zero (suc b) = inl (omega arith)
below_or (suc a) (suc b) = up (below_or a b)
  where
    up : {a b : ℕ} → (a < b) ⊎ (b ≤ a) → (suc a < suc b) ⊎ (suc b ≤ suc a)
    up (inl h) = inl (omega (arith, h))
    up (inr h) = inr (omega (arith, h))

small : (align bytes : ℕ) → 2 ^ align ≤ bytes → bytes ≤ 8 → align < 32
small align bytes h most = by_order (below_or align 32)
  where
    by_order : (align < 32) ⊎ (32 ≤ align) → align < 32
    by_order (inl below) = below
    by_order (inr far) = let big : 2 ^ 32 ≤ 2 ^ align = pow_mono far in absurd (omega (arith, big, h, most))

load_small : (op : LoadOp) → load_bytes op ≤ 8
load_small load.I32 = omega arith
load_small _ = omega arith

store_small : (op : StoreOp) → store_bytes op ≤ 8
store_small store.I32 = omega arith
store_small _ = omega arith

simple_aligned : (c : Context) (s : Simple) (old new : List ValType) → SimpleTyped c s old new → HasAlignment s
simple_aligned c (instr.Load op at) old new t = small at.align (load_bytes op) t.0.1 (load_small op)
simple_aligned c (instr.Store op at) old new t = small at.align (store_bytes op) t.0.1 (store_small op)
simple_aligned c _ old new t = tt

mutual
  op_aligned : (c : Context) (o : Op) (old new : List ValType) → OpTyped c o old new → OpAligned o
  op_aligned c (simple s) old new t = simple_aligned c s old new t
  op_aligned c (block b body) old new (t, is, applies, typed) =
      ops_aligned (under c t.results) body (reverse t.params) (reverse t.results) typed
  op_aligned c (loop b body) old new (t, is, applies, typed) =
      ops_aligned (under c t.params) body (reverse t.params) (reverse t.results) typed
  op_aligned c (if' b then_arm else_arm) old new (t, between, test, is, applies, first, second) = (
    ops_aligned (under c t.results) then_arm (reverse t.params) (reverse t.results) first,
    ops_aligned (under c t.results) else_arm (reverse t.params) (reverse t.results) second,
  )

  ops_aligned : (c : Context) (os : Ops) (old new : List ValType) → Typed c os old new → OpsAligned os
  ops_aligned c stop old new t = tt
  ops_aligned c (next o os) old new (between, first, rest) =
      (op_aligned c o old between first, ops_aligned c os between new rest)

type_there : (types : List FuncType) (k : ℕ) → k < length types → (t : FuncType) × (slice_get types k ≡ Some t)
type_there [] k h = absurd (omega arith)
type_there (t ∷ ts) zero h = (t, refl)
type_there (t ∷ ts) (suc k) h = type_there ts k (omega arith)

-- the alignments of a valid module
pub funcs_aligned : (m : Module) → ValidModule m → All (λ f. OpsAligned f.body) m.funcs
funcs_aligned m valid =
    aligned m.funcs valid.outside.funcs valid.bodies
  where
    body_aligned : (f : Func) → f.type_index < length m.types → ValidBody m f → OpsAligned f.body
    body_aligned f there body =
        let t = type_there m.types f.type_index there in
        ops_aligned (body_context m t.0 f) f.body [] (reverse t.0.results) (body t.0 t.1)

    aligned : (fs : List Func) → All (λ f. f.type_index < length m.types) fs → All (ValidBody m) fs
        → All (λ f. OpsAligned f.body) fs
    aligned [] there bodies = All-nil (λ (f : Func). OpsAligned f.body)
    aligned (f ∷ fs) there bodies =
        All-cons (λ (f : Func). OpsAligned f.body) f fs
        (body_aligned f (All-head (λ (f : Func). f.type_index < length m.types) f fs there)
        (All-head (ValidBody m) f fs bodies))
        (aligned fs (All-tail (λ (f : Func). f.type_index < length m.types) f fs there)
        (All-tail (ValidBody m) f fs bodies))

pub item_aligned : (is : List Instr) (n : ℕ) (d : Instr) → n < length is → OpsAligned (ops_of (map op_of is))
    → OpAligned (op_of (get_or is n d))
item_aligned [] n d lt h = absurd (omega arith)
item_aligned (i ∷ is) zero d lt h = h.0
item_aligned (i ∷ is) (suc n) d lt h = item_aligned is n d (omega arith) h.1

-- ---- lists of instructions

rest_at : (is : List Instr) (n : ℕ) (i : Instr) → n < length is → i ≡ get_or is n i
    → ops_of (map op_of (drop n is)) ≡ next (op_of i) (ops_of (map op_of (drop (suc n) is)))
rest_at [] n i h e = absurd (omega arith)
rest_at (x ∷ xs) zero i h e = ap (λ (j : Instr). next (op_of j) (ops_of (map op_of xs))) (sym e)
rest_at (x ∷ xs) (suc n) i h e = rest_at xs n i (omega arith) e

-- what is left of a sequence is an instruction and what is left after it
pub rest_of : (is : List Instr) (n : ℕ) (i : Instr) → n < length is → i ≡ get_or is n i
    → ops_of (map op_of (drop n is)) ≡ next (op_of i) (ops_of (map op_of (drop (n + 1) is)))
rest_of is n i h e =
    let after : suc n ≡ n + 1 = omega arith in
    rest_at is n i h e ∙ ap (λ m. next (op_of i) (ops_of (map op_of (drop m is)))) after

pub item_le_count : (is : List Instr) (k : ℕ) (i : Instr) → k < length is
    → count (op_of (get_or is k i)) ≤ ops_count (ops_of (map op_of is))
item_le_count [] k i h = absurd (omega arith)
item_le_count (x ∷ xs) zero i h = omega arith
item_le_count (x ∷ xs) (suc k) i h = let rest = item_le_count xs k i (omega arith) in omega (arith, rest)

-- the lines of one instruction more
pub one_more : (func here there : ℕ) (o : Op) (rest : Ops) (list new all : List ℕ) → there ≡ here + count o
    → new ≡ list ++ op_lines func here o → list ++ ops_lines func here (next o rest) ≡ all
    → new ++ ops_lines func there rest ≡ all
one_more func here there o rest list new all place added so_far =
    ap (λ k. new ++ ops_lines func k rest) place
    ∙ (ap (λ (xs : List ℕ). xs ++ ops_lines func (here + count o) rest) added
    ∙ (append_assoc list (op_lines func here o) (ops_lines func (here + count o) rest) ∙ so_far))

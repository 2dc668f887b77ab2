-- Typings of sequences: in parts, and above other operands.
use Rattle.std.proofs.Common.{◌≡◌, List, [], ◌∷◌, ◌++◌, reverse, Some, refl, sym, ap, subst, ◌∙◌, append_assoc}
use Rattle.wasm_ast.specs.declared.values.ValType.{ValType}
use Rattle.wasm_ast.specs.declared.values.ValType.TheVariants.{I32}
use Rattle.wasm_ast.specs.declared.values.FuncType.{FuncType}
use Rattle.wasm_ast.specs.declared.instr.LocalOp.{LocalOp}
use Rattle.wasm_ast.specs.declared.instr.LocalOp.TheVariants as local
use Rattle.wasm_ast.specs.declared.instr.GlobalOp.{GlobalOp}
use Rattle.wasm_ast.specs.declared.instr.GlobalOp.TheVariants as global
use Rattle.wasm_ast.specs.declared.instr.Simple.{Simple}
use Rattle.wasm_ast.specs.declared.instr.Simple.TheVariants as instr
use Rattle.wasm_ast.specs.declared.module.Global.{Global}
use Rattle.wasm_ast.specs.Syntax.{Op, simple, block, loop, if', Ops, stop, next, ops_of}
use Rattle.wasm_ast.specs.Types.{type_of, source_of, target_of}
use Rattle.wasm_ast.specs.Access.{load_type, store_type}
use Rattle.validator.specs.Typing.{Context, on_top, Replaces, Applies, LocalTyped, GlobalTyped, SimpleTyped, Typed, OpTyped}

-- ---- parts

-- a sequence is typed if its parts are, through a stack between them
pub typed_append :
    (c : Context) (os us : List Op) (old between new : List ValType) → Typed c (ops_of os) old between
    → Typed c (ops_of us) between new
    → Typed c (ops_of (os ++ us)) old new
typed_append c [] us old between new h k = subst (λ (ts : List ValType). Typed c (ops_of us) ts new) (sym h) k
typed_append c (o ∷ os) us old between new h k = (h.0, h.1, typed_append c os us h.0 between new h.2 k)

-- and only then
pub typed_parts : (c : Context) (os us : List Op) (old new : List ValType) → Typed c (ops_of (os ++ us)) old new
    → (between : List ValType) × Typed c (ops_of os) old between × Typed c (ops_of us) between new
typed_parts c [] us old new h = (old, refl, h)
typed_parts c (o ∷ os) us old new h =
    let rest = typed_parts c os us h.0 new h.2 in
    (rest.0, (h.0, h.1, rest.1), rest.2)

-- ---- rests

pub same_rest : (ts us vs : List ValType) → ts ++ us ≡ ts ++ vs → us ≡ vs
same_rest [] us vs h = h
same_rest (t ∷ ts) us vs h = let tails : ts ++ us ≡ ts ++ vs = cc in same_rest ts us vs tails

-- where a function is applied leads to one stack
pub same_applied :
    (t u : FuncType) (old a b : List ValType) → Some t ≡ Some u → Applies t old a → Applies u old b → a ≡ b
same_applied t u old a b is h g =
    let same : u ≡ t = cc in
    let k = subst (λ (x : FuncType). Applies x old b) same g in
    let rests : h.0 ≡ k.0 = same_rest (reverse t.params) h.0 k.0 (sym h.1 ∙ k.1) in
    h.2 ∙ (ap (on_top t.results) rests ∙ sym k.2)

-- ---- above other operands

on_top_above : (ts rest below old : List ValType) → old ≡ on_top ts rest → old ++ below ≡ on_top ts (rest ++ below)
on_top_above ts rest below old h = ap (λ (us : List ValType). us ++ below) h ∙ append_assoc (reverse ts) rest below

i32_above : (ts below old : List ValType) → old ≡ I32 ∷ ts → old ++ below ≡ I32 ∷ (ts ++ below)
i32_above ts below old h = ap (λ (us : List ValType). us ++ below) h

i32_on_top_above :
    (ts rest below old : List ValType) → old ≡ I32 ∷ on_top ts rest → old ++ below ≡ I32 ∷ on_top ts (rest ++ below)
i32_on_top_above ts rest below old h =
    i32_above (on_top ts rest) below old h ∙ ap (λ (us : List ValType). I32 ∷ us) (append_assoc (reverse ts) rest below)

replaces_above :
    (takes gives below old new : List ValType) → Replaces takes gives old new
    → Replaces takes gives (old ++ below) (new ++ below)
replaces_above takes gives below old new h =
    (h.0 ++ below, on_top_above takes h.0 below old h.1, on_top_above gives h.0 below new h.2)

local_above :
    (op : LocalOp) (t : ValType) (below old new : List ValType) → LocalTyped op t old new
    → LocalTyped op t (old ++ below) (new ++ below)
local_above local.Get t below old new h = replaces_above [] (t ∷ []) below old new h
local_above local.Set t below old new h = replaces_above (t ∷ []) [] below old new h
local_above local.Tee t below old new h = replaces_above (t ∷ []) (t ∷ []) below old new h

global_above :
    (op : GlobalOp) (g : Global) (below old new : List ValType) → GlobalTyped op g old new
    → GlobalTyped op g (old ++ below) (new ++ below)
global_above global.Get g below old new h = replaces_above [] (g.val_type ∷ []) below old new h
global_above global.Set g below old new h = (h.0, replaces_above (g.val_type ∷ []) [] below old new h.1)

simple_above :
    (c : Context) (i : Simple) (below old new : List ValType) → SimpleTyped c i old new
    → SimpleTyped c i (old ++ below) (new ++ below)
simple_above c instr.Unreachable below old new h = tt
simple_above c instr.Nop below old new h = ap (λ (ts : List ValType). ts ++ below) h
simple_above c (instr.Br label) below old new h = (h.0, h.1 ++ below, h.2, on_top_above h.0 h.1 below old h.3)
simple_above c (instr.BrIf label) below old new h =
    (h.0, h.1 ++ below, h.2, i32_on_top_above h.0 h.1 below old h.3, on_top_above h.0 h.1 below new h.4)
simple_above c (instr.BrTable other labels) below old new h =
    (h.0, h.1 ++ below, h.2, h.3, i32_on_top_above h.0 h.1 below old h.4)
simple_above c instr.Return below old new h = (h.0 ++ below, on_top_above c.results h.0 below old h.1)
simple_above c (instr.Call func) below old new h = (h.0, h.1, replaces_above h.0.params h.0.results below old new h.2)
simple_above c (instr.CallIndirect type) below old new h =
    (h.0, h.1 ++ below, h.2, h.3, i32_above h.1 below old h.4, replaces_above h.0.params h.0.results below h.1 new h.5)
simple_above c instr.Drop below old new h = (h.0, replaces_above (h.0 ∷ []) [] below old new h.1)
simple_above c instr.Select below old new h = (h.0, replaces_above (h.0 ∷ h.0 ∷ I32 ∷ []) (h.0 ∷ []) below old new h.1)
simple_above c (instr.Local op index) below old new h = (h.0, h.1, local_above op h.0 below old new h.2)
simple_above c (instr.Global op index) below old new h = (h.0, h.1, global_above op h.0 below old new h.2)
simple_above c (instr.Load op at) below old new h =
    (h.0, replaces_above (I32 ∷ []) (load_type op ∷ []) below old new h.1)
simple_above c (instr.Store op at) below old new h =
    (h.0, replaces_above (I32 ∷ store_type op ∷ []) [] below old new h.1)
simple_above c instr.MemorySize below old new h = (h.0, replaces_above [] (I32 ∷ []) below old new h.1)
simple_above c instr.MemoryGrow below old new h = (h.0, replaces_above (I32 ∷ []) (I32 ∷ []) below old new h.1)
simple_above c (instr.Const value) below old new h = replaces_above [] (type_of value ∷ []) below old new h
simple_above c (instr.Unary t op) below old new h = replaces_above (t ∷ []) (t ∷ []) below old new h
simple_above c (instr.Binary t op) below old new h = replaces_above (t ∷ t ∷ []) (t ∷ []) below old new h
simple_above c (instr.Test t op) below old new h = replaces_above (t ∷ []) (I32 ∷ []) below old new h
simple_above c (instr.Compare t op) below old new h = replaces_above (t ∷ t ∷ []) (I32 ∷ []) below old new h
simple_above c (instr.Convert op) below old new h =
    replaces_above (source_of op ∷ []) (target_of op ∷ []) below old new h

op_above :
    (c : Context) (o : Op) (below old new : List ValType) → OpTyped c o old new
    → OpTyped c o (old ++ below) (new ++ below)
op_above c (simple i) below old new h = simple_above c i below old new h
op_above c (block b body) below old new h = (h.0, h.1, replaces_above h.0.params h.0.results below old new h.2, h.3)
op_above c (loop b body) below old new h = (h.0, h.1, replaces_above h.0.params h.0.results below old new h.2, h.3)
op_above c (if' b first second) below old new h = (
  h.0,
  h.1 ++ below,
  i32_above h.1 below old h.2,
  h.3,
  replaces_above h.0.params h.0.results below h.1 new h.4,
  h.5,
  h.6,
)

-- what is typed is typed above any operands, and leaves them
pub typed_above :
    (c : Context) (os : Ops) (below old new : List ValType) → Typed c os old new
    → Typed c os (old ++ below) (new ++ below)
typed_above c stop below old new h = ap (λ (ts : List ValType). ts ++ below) h
typed_above c (next o os) below old new h =
    (h.0 ++ below, op_above c o below old h.0 h.1, typed_above c os below h.0 new h.2)

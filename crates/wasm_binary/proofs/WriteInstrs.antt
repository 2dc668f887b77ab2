-- The canonical bytes of instructions, one after the other.
use Rattle.std.proofs.Common.{◌≡◌, ℕ, zero, suc, ◌+◌, ◌<◌, ◌≤◌, false, eqb, List, [], ◌∷◌, ◌++◌, length, take, map, get_or, sym, ap, ◌∙◌, append_assoc, arith}
use Rattle.std.proofs.lemmas.List.{append-nil, take_more, map-append}
use Rattle.wasm_ast.specs.declared.instr.Instr.{Instr}
use Rattle.wasm_ast.specs.Syntax.{Op, Ops, count, ops_count, ops_of}
use Rattle.wasm_ast.specs.View.{op_of}
use Rattle.wasm_binary.specs.Opcodes.{else_byte}
use Rattle.wasm_binary.specs.Canonical.{canon_op, canon_else, canon_ops}

ops_end : (os : List Op) (o : Op) → canon_ops (ops_of (os ++ o ∷ [])) ≡ canon_ops (ops_of os) ++ canon_op o
ops_end [] o = append-nil (canon_op o)
ops_end (p ∷ os) o =
    ap (λ (xs : List ℕ). canon_op p ++ xs) (ops_end os o)
    ∙ sym (append_assoc (canon_op p) (canon_ops (ops_of os)) (canon_op o))

pub ops_more :
    (is : List Instr) (i : ℕ) (d : Instr) → i < length is
    → canon_ops (ops_of (map op_of (take (i + 1) is)))
    ≡ canon_ops (ops_of (map op_of (take i is))) ++ canon_op (op_of (get_or is i d))
ops_more is i d lt =
    ap (λ (xs : List Instr). canon_ops (ops_of (map op_of xs))) (take_more is i d lt)
    ∙ ap (λ (os : List Op). canon_ops (ops_of os)) (map-append op_of (take i is) (get_or is i d ∷ []))
    ∙ ops_end (map op_of (take i is)) (op_of (get_or is i d))

pub instr_step :
    (is : List Instr) (i : ℕ) (d : Instr) (old out new : List ℕ) → i < length is
    → out ≡ old ++ canon_ops (ops_of (map op_of (take i is))) → new ≡ out ++ canon_op (op_of (get_or is i d))
    → new ≡ old ++ canon_ops (ops_of (map op_of (take (i + 1) is)))
instr_step is i d old out new lt e f =
    f ∙ ap (λ (xs : List ℕ). xs ++ canon_op (op_of (get_or is i d))) e
    ∙ append_assoc old (canon_ops (ops_of (map op_of (take i is)))) (canon_op (op_of (get_or is i d)))
    ∙ ap (λ (xs : List ℕ). old ++ xs) (sym (ops_more is i d lt))

-- the item of a sequence is no larger than the sequence
pub item_le_count :
    (is : List Instr) (i : ℕ) (d : Instr) → i < length is
    → count (op_of (get_or is i d)) ≤ ops_count (ops_of (map op_of is))
item_le_count [] i d lt = absurd (omega arith)
item_le_count (i ∷ is) zero d lt = omega arith
item_le_count (i ∷ is) (suc k) d lt = omega (arith, item_le_count is k d (omega arith))

pub else_some :
    (is : List Instr) (os : Ops) → ops_of (map op_of is) ≡ os → false ≡ eqb (length is) 0
    → canon_else os ≡ else_byte ∷ []
else_some [] os e b = absurd cc
else_some (i ∷ is) os e b = ap canon_else (sym e)

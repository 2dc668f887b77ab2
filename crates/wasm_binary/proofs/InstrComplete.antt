-- The readers of instructions are complete, unless too many blocks are open at once.
use Rattle.std.proofs.Common.{◌≡◌, ℕ, zero, suc, ◌+◌, ◌-◌, ◌<◌, ◌≤◌, Bool, true, false, max, List, [], ◌∷◌, length, None, refl, sym, ap, ◌∙◌, arith, inl, inr}
use Rattle.std.proofs.Math.Nat.{max-le, le-max_left, le-max_right}
use Rattle.wasm_ast.specs.declared.values.Value.TheVariants.{I32, I64}
use Rattle.wasm_ast.specs.declared.instr.BlockType.{BlockType}
use Rattle.wasm_ast.specs.declared.instr.MemArg.{MemArg}
use Rattle.wasm_ast.specs.declared.instr.Simple.{Simple}
use Rattle.wasm_ast.specs.declared.instr.Simple.TheVariants.{Unreachable, Nop, Br, BrIf, BrTable, Return, Call, CallIndirect, Drop, Select, Local, Global, Load, Store, MemorySize, MemoryGrow, Const, Unary, Binary, Test, Compare, Convert}
use Rattle.wasm_ast.specs.Syntax.{Op, simple, block, loop, if', Ops, stop, next, ops_of}
use Rattle.wasm_ast.specs.Limits.{depth, ops_depth}
use Rattle.wasm_ast.proofs.LimitLemmas.{NestsWithin}
use Rattle.wasm_binary.specs.Numbers.{IsU32}
use Rattle.wasm_binary.specs.Opcodes.{opcode, reserved_byte, block_byte, loop_byte, if_byte, else_byte, end_byte}
use Rattle.wasm_binary.specs.Grammar.{AreItems, IsBlockType, IsMemArg, AreImmediates, IsOp, AreOps, IsExpression}
use Rattle.wasm_binary.specs.Inside.Reading.{Read, read_byte, begins_with, read_u32, find_opcode, arithmetic_of, comparison_of, instruction_of, read_mem_arg, with_index, read_index, read_reserved, read_call_indirect, read_const, read_br_table, read_immediates, read_as, read_simple, read_enclosed, read_else, read_if, read_nested, opens_block, read_with_opcode, read_op, is_end, read_ops, read_body, inner_of, nesting, read_expression}
use Rattle.wasm_binary.proofs.ReadLoops.{body_is}
use Rattle.wasm_binary.proofs.ReadComplete.{Complete, Always, always, complete_ok, complete_then, complete_weaker, complete_first, complete_second, begins_cons, skip_complete, u32_complete, unsigned_takes, signed_complete, signed_takes, vector_complete, block_type_complete, block_type_takes}
use Rattle.wasm_binary.proofs.InstrTable.{blank, found_by, not_opcode}

-- ---- instructions without bodies

pub index_complete : (n : ℕ) (bytes rest : List ℕ) → IsU32 bytes n rest → Complete Always (n, rest) (read_u32 bytes)
index_complete n bytes rest h = u32_complete bytes n rest h

mem_arg_complete :
    (at : MemArg) (bytes rest : List ℕ) → IsMemArg bytes at rest → Complete Always (at, rest) (read_mem_arg bytes)
unfolding read_mem_arg
mem_arg_complete at bytes rest h =
    complete_then _ (u32_complete bytes at.align h.0 h.1)
    (complete_then _ (u32_complete h.0 at.offset rest h.2) (complete_ok refl) always) always

immediates_complete :
    (s : Simple) (bytes rest : List ℕ) → AreImmediates bytes s rest
    → Complete Always (s, rest) (read_immediates (blank s) bytes)
unfolding read_immediates read_index with_index read_reserved read_call_indirect read_const read_br_table
immediates_complete (Br label) bytes rest h =
    complete_then _ (u32_complete bytes label rest h) (complete_ok refl) always
immediates_complete (BrIf label) bytes rest h =
    complete_then _ (u32_complete bytes label rest h) (complete_ok refl) always
immediates_complete (Call func) bytes rest h =
    complete_then _ (u32_complete bytes func rest h) (complete_ok refl) always
immediates_complete (Local op index) bytes rest h =
    complete_then _ (u32_complete bytes index rest h) (complete_ok refl) always
immediates_complete (Global op index) bytes rest h =
    complete_then _ (u32_complete bytes index rest h) (complete_ok refl) always
immediates_complete (Load op at) bytes rest h =
    complete_then _ (mem_arg_complete at bytes rest h) (complete_ok refl) always
immediates_complete (Store op at) bytes rest h =
    complete_then _ (mem_arg_complete at bytes rest h) (complete_ok refl) always
immediates_complete (BrTable other labels) bytes rest h =
    complete_then _ (vector_complete IsU32 read_u32 index_complete labels bytes h.0 h.1)
    (complete_then _ (u32_complete h.0 other rest h.2) (complete_ok refl) always) always
immediates_complete (CallIndirect index) bytes rest h =
    complete_then _ (u32_complete bytes index (reserved_byte ∷ rest) h)
    (complete_then _ (skip_complete reserved_byte rest) (complete_ok refl) always) always
immediates_complete MemorySize bytes rest h =
    rw h (complete_then _ (skip_complete reserved_byte rest) (complete_ok refl) always)
immediates_complete MemoryGrow bytes rest h =
    rw h (complete_then _ (skip_complete reserved_byte rest) (complete_ok refl) always)
immediates_complete (Const (I32 n)) bytes rest h =
    complete_then _ (signed_complete 32 bytes n rest h) (complete_ok refl) always
immediates_complete (Const (I64 n)) bytes rest h =
    complete_then _ (signed_complete 64 bytes n rest h) (complete_ok refl) always
immediates_complete Unreachable bytes rest h = complete_ok (λ i. (Unreachable, sym h i))
immediates_complete Nop bytes rest h = complete_ok (λ i. (Nop, sym h i))
immediates_complete Return bytes rest h = complete_ok (λ i. (Return, sym h i))
immediates_complete Drop bytes rest h = complete_ok (λ i. (Drop, sym h i))
immediates_complete Select bytes rest h = complete_ok (λ i. (Select, sym h i))
immediates_complete (Unary t op) bytes rest h = complete_ok (λ i. (Unary t op, sym h i))
immediates_complete (Binary t op) bytes rest h = complete_ok (λ i. (Binary t op, sym h i))
immediates_complete (Test t op) bytes rest h = complete_ok (λ i. (Test t op, sym h i))
immediates_complete (Compare t op) bytes rest h = complete_ok (λ i. (Compare t op, sym h i))
immediates_complete (Convert op) bytes rest h = complete_ok (λ i. (Convert op, sym h i))

simple_complete :
    (s : Simple) (bytes rest : List ℕ) → AreImmediates bytes s rest
    → Complete Always (s, rest) (read_simple (opcode s) bytes)
unfolding read_simple read_as
simple_complete s bytes rest h = rw (found_by s) (immediates_complete s bytes rest h)

-- ---- how many bytes an encoding takes

indices_take : (ns : List ℕ) (bytes rest : List ℕ) → AreItems IsU32 bytes ns rest → length rest ≤ length bytes
indices_take [] bytes rest h = omega (arith, ap length h)
indices_take (n ∷ ns) bytes rest h = omega (arith, unsigned_takes 32 bytes n h.0 h.1, indices_take ns h.0 rest h.2)

immediates_take : (s : Simple) (bytes rest : List ℕ) → AreImmediates bytes s rest → length rest ≤ length bytes
immediates_take (Br label) bytes rest h = omega (arith, unsigned_takes 32 bytes label rest h)
immediates_take (BrIf label) bytes rest h = omega (arith, unsigned_takes 32 bytes label rest h)
immediates_take (Call func) bytes rest h = omega (arith, unsigned_takes 32 bytes func rest h)
immediates_take (Local op index) bytes rest h = omega (arith, unsigned_takes 32 bytes index rest h)
immediates_take (Global op index) bytes rest h = omega (arith, unsigned_takes 32 bytes index rest h)
immediates_take (Load op at) bytes rest h =
    omega (arith, unsigned_takes 32 bytes at.align h.0 h.1, unsigned_takes 32 h.0 at.offset rest h.2)
immediates_take (Store op at) bytes rest h =
    omega (arith, unsigned_takes 32 bytes at.align h.0 h.1, unsigned_takes 32 h.0 at.offset rest h.2)
immediates_take (BrTable other labels) bytes rest h =
    omega (
      arith,
      unsigned_takes 32 bytes (length labels) h.1.0 h.1.1,
      indices_take labels h.1.0 h.0 h.1.2,
      unsigned_takes 32 h.0 other rest h.2,
    )
immediates_take (CallIndirect index) bytes rest h =
    omega (arith, unsigned_takes 32 bytes index (reserved_byte ∷ rest) h)
immediates_take MemorySize bytes rest h = omega (arith, ap length h)
immediates_take MemoryGrow bytes rest h = omega (arith, ap length h)
immediates_take (Const (I32 n)) bytes rest h = omega (arith, signed_takes 32 bytes n rest h)
immediates_take (Const (I64 n)) bytes rest h = omega (arith, signed_takes 64 bytes n rest h)
immediates_take Unreachable bytes rest h = omega (arith, ap length h)
immediates_take Nop bytes rest h = omega (arith, ap length h)
immediates_take Return bytes rest h = omega (arith, ap length h)
immediates_take Drop bytes rest h = omega (arith, ap length h)
immediates_take Select bytes rest h = omega (arith, ap length h)
immediates_take (Unary t op) bytes rest h = omega (arith, ap length h)
immediates_take (Binary t op) bytes rest h = omega (arith, ap length h)
immediates_take (Test t op) bytes rest h = omega (arith, ap length h)
immediates_take (Compare t op) bytes rest h = omega (arith, ap length h)
immediates_take (Convert op) bytes rest h = omega (arith, ap length h)

deepest : (a b c n : ℕ) → a + c ≤ n → b + c ≤ n → max a b + c ≤ n
deepest a b c n h k = let few : max a b ≤ n - c = max-le {a = a} {b = b} (omega arith) (omega arith) in omega arith

-- no more blocks are open than bytes are taken
mutual
  pub op_takes : (o : Op) (bytes rest : List ℕ) → IsOp bytes o rest → depth o + length rest < length bytes
  op_takes (simple s) bytes rest h = omega (arith, ap length h.1, immediates_take s h.0 rest h.2)
  op_takes (block type body) bytes rest h =
      omega (arith, ap length h.2, block_type_takes type h.0 h.1 h.3, ops_take body h.1 (end_byte ∷ rest) h.4)
  op_takes (loop type body) bytes rest h =
      omega (arith, ap length h.2, block_type_takes type h.0 h.1 h.3, ops_take body h.1 (end_byte ∷ rest) h.4)
  op_takes (if' type first second) bytes rest (from, mid, e, t, inl h) =
      let none : ops_depth second ≡ 0 = ap ops_depth h.1 in
      let one = ops_take first mid (end_byte ∷ rest) h.0 in
      omega (
        arith,
        ap length e,
        block_type_takes type from mid t,
        deepest (ops_depth first) (ops_depth second) (length rest) (length mid) (omega arith) (omega arith),
      )
  op_takes (if' type first second) bytes rest (from, mid, e, t, inr h) =
      let one = ops_take first mid (else_byte ∷ h.0) h.1 in
      let two = ops_take second h.0 (end_byte ∷ rest) h.2 in
      omega (
        arith,
        ap length e,
        block_type_takes type from mid t,
        deepest (ops_depth first) (ops_depth second) (length rest) (length mid) (omega arith) (omega arith),
      )

  pub ops_take : (os : Ops) (bytes rest : List ℕ) → AreOps bytes os rest → ops_depth os + length rest ≤ length bytes
  ops_take stop bytes rest h = omega (arith, ap length h)
  ops_take (next o os) bytes rest h =
      let one = op_takes o bytes h.0 h.1 in
      let two = ops_take os h.0 rest h.2 in
      deepest (depth o) (ops_depth os) (length rest) (length bytes) (omega arith) (omega arith)

-- ---- instructions with bodies

-- the bytes that begin no instruction of these
no_block : instruction_of block_byte ≡ None
unfolding instruction_of comparison_of arithmetic_of find_opcode
no_block = refl

no_loop : instruction_of loop_byte ≡ None
unfolding instruction_of comparison_of arithmetic_of find_opcode
no_loop = refl

no_if : instruction_of if_byte ≡ None
unfolding instruction_of comparison_of arithmetic_of find_opcode
no_if = refl

no_else : instruction_of else_byte ≡ None
unfolding instruction_of comparison_of arithmetic_of find_opcode
no_else = refl

no_end : instruction_of end_byte ≡ None
unfolding instruction_of comparison_of arithmetic_of find_opcode
no_end = refl

opens_none : (s : Simple) → opens_block (opcode s) ≡ false
unfolding opens_block
opens_none s = rw (not_opcode s block_byte no_block, not_opcode s loop_byte no_loop, not_opcode s if_byte no_if) refl

simple_begins : (s : Simple) (from : List ℕ) → is_end (opcode s ∷ from) ≡ false
unfolding is_end begins_with
simple_begins s from = rw (not_opcode s end_byte no_end, not_opcode s else_byte no_else) refl

-- an instruction does not begin as an end or an else does
pub op_begins : (o : Op) (bytes rest : List ℕ) → IsOp bytes o rest → is_end bytes ≡ false
unfolding is_end begins_with
op_begins (simple s) bytes rest h = rw h.1 (simple_begins s h.0)
op_begins (block type body) bytes rest h = rw h.2 refl
op_begins (loop type body) bytes rest h = rw h.2 refl
op_begins (if' type first second) bytes rest h = rw h.2 refl

pub end_ends : (rest : List ℕ) → is_end (end_byte ∷ rest) ≡ true
unfolding is_end begins_with
end_ends rest = refl

pub else_ends : (rest : List ℕ) → is_end (else_byte ∷ rest) ≡ true
unfolding is_end begins_with
else_ends rest = refl

abbrev pub list_of : Ops → List Op
list_of stop = []
list_of (next o os) = o ∷ list_of os

pub ops-list : (os : Ops) → ops_of (list_of os) ≡ os
ops-list stop = refl
ops-list (next o os) = ap (next o) (ops-list os)

enclosed_complete :
    (W : Type 0) (read : List ℕ → Read (List Op)) (t : BlockType) (body : Ops) (bytes mid rest : List ℕ)
    → IsBlockType bytes t mid → Complete W (list_of body, end_byte ∷ rest) (read mid)
    → Complete W ((t, body), rest) (read_enclosed read bytes)
unfolding read_enclosed
enclosed_complete W read t body bytes mid rest ht h =
    complete_then _ (block_type_complete t bytes mid ht)
    (complete_then _ h (complete_then _ (skip_complete end_byte rest)
    (complete_ok (λ i. ((t, ops-list body i), rest))) always) (λ w. w)) always

else_none :
    (W : Type 0) (read : List ℕ → Read (List Op)) (rest : List ℕ)
    → Complete W ([], rest) (read_else read (end_byte ∷ rest))
unfolding read_else begins_with
else_none W read rest = complete_then _ (skip_complete end_byte rest) (complete_ok refl) always

else_some :
    (W : Type 0) (read : List ℕ → Read (List Op)) (arm : Ops) (from rest : List ℕ)
    → Complete W (list_of arm, end_byte ∷ rest) (read from)
    → Complete W (list_of arm, rest) (read_else read (else_byte ∷ from))
unfolding read_else
else_some W read arm from rest h =
    complete_then _ (complete_first _ (begins_cons else_byte from) h)
    (complete_then _ (skip_complete end_byte rest) (complete_ok refl) always) (λ w. w)

if_complete :
    (W : Type 0) (read : List ℕ → Read (List Op)) (t : BlockType) (first second : Ops) (bytes mid from rest : List ℕ)
    → IsBlockType bytes t mid → Complete W (list_of first, from) (read mid)
    → Complete W (list_of second, rest) (read_else read from)
    → Complete W (if' t first second, rest) (read_if read bytes)
unfolding read_if
if_complete W read t first second bytes mid from rest ht h k =
    complete_then _ (block_type_complete t bytes mid ht) (complete_then _ h (complete_then _ k
    (complete_ok (λ i. (if' t (ops-list first i) (ops-list second i), rest))) (λ w. w)) (λ w. w)) always

as_body :
    {W : Type 0} {x : List Op × List ℕ} (more : ℕ) (bytes : List ℕ)
    → Complete W x (read_ops (inner_of more) (length bytes) bytes) → Complete W x (read_body more bytes)
as_body more bytes h = rw (body_is more bytes) h

ended : (rest : List ℕ) → is_end rest ≡ true → 0 < length rest
unfolding is_end begins_with
ended [] e = absurd cc
ended (b ∷ bs) e = omega arith

mutual
  unfolding read_op read_byte read_with_opcode opens_block read_nested inner_of read_ops

  pub op_complete :
      (more : ℕ) (o : Op) (bytes rest : List ℕ) → IsOp bytes o rest
      → Complete (depth o ≤ more) (o, rest) (read_op (inner_of more) bytes)
  op_complete more (simple s) bytes rest h =
      rw h.1
      (complete_second _ (opens_none s)
      (complete_then _ (simple_complete s h.0 rest h.2) (complete_ok refl) always))
  op_complete zero (block type body) bytes rest h = rw h.2 (record { complete = λ w. absurd (omega arith) })
  op_complete zero (loop type body) bytes rest h = rw h.2 (record { complete = λ w. absurd (omega arith) })
  op_complete zero (if' type first second) bytes rest h = rw h.2 (record { complete = λ w. absurd (omega arith) })
  op_complete (suc more) (block type body) bytes rest h =
      rw h.2
      (complete_then _
      (enclosed_complete (ops_depth body ≤ more) (read_body more) type body h.0 h.1 rest h.3
      (as_body more h.1
      (ops_complete more (length h.1) body h.1 (end_byte ∷ rest) h.4 (end_ends rest) (omega arith))))
      (complete_ok refl) (λ w. omega arith))
  op_complete (suc more) (loop type body) bytes rest h =
      rw h.2
      (complete_then _
      (enclosed_complete (ops_depth body ≤ more) (read_body more) type body h.0 h.1 rest h.3
      (as_body more h.1
      (ops_complete more (length h.1) body h.1 (end_byte ∷ rest) h.4 (end_ends rest) (omega arith))))
      (complete_ok refl) (λ w. omega arith))
  op_complete (suc more) (if' type first second) bytes rest (from, mid, e, t, inl h) =
      rw e
      (complete_weaker
      (if_complete (ops_depth first ≤ more) (read_body more) type first second from mid (end_byte ∷ rest) rest t
      (as_body more mid
      (ops_complete more (length mid) first mid (end_byte ∷ rest) h.0 (end_ends rest) (omega arith)))
      (rw h.1 (else_none (ops_depth first ≤ more) (read_body more) rest)))
      (λ w. omega (arith, le-max_left (ops_depth first) (ops_depth second))))
  op_complete (suc more) (if' type first second) bytes rest (from, mid, e, t, inr h) =
      rw e
      (complete_weaker
      (if_complete ((ops_depth first ≤ more) × (ops_depth second ≤ more)) (read_body more) type first second
      from mid (else_byte ∷ h.0) rest t
      (complete_weaker
      (as_body more mid
      (ops_complete more (length mid) first mid (else_byte ∷ h.0) h.1 (else_ends h.0) (omega arith)))
      (λ w. w.0))
      (else_some ((ops_depth first ≤ more) × (ops_depth second ≤ more)) (read_body more) second h.0 rest
      (complete_weaker
      (as_body more h.0
      (ops_complete more (length h.0) second h.0 (end_byte ∷ rest) h.2 (end_ends rest) (omega arith)))
      (λ w. w.1))))
      (λ w. (
        omega (arith, le-max_left (ops_depth first) (ops_depth second)),
        omega (arith, le-max_right (ops_depth first) (ops_depth second)),
      )))

  pub ops_complete :
      (more most : ℕ) (os : Ops) (bytes rest : List ℕ) → AreOps bytes os rest → is_end rest ≡ true → length bytes ≤ most
      → Complete (ops_depth os ≤ more) (list_of os, rest) (read_ops (inner_of more) most bytes)
  ops_complete more zero os bytes rest h e few = absurd (omega (arith, ops_take os bytes rest h, ended rest e))
  ops_complete more (suc n) stop bytes rest h e few =
      complete_first _ (ap is_end (sym h) ∙ e) (complete_ok (λ i. ([], sym h i)))
  ops_complete more (suc n) (next o os) bytes rest h e few =
      complete_second _ (op_begins o bytes h.0 h.1) (complete_then _ (op_complete more o bytes h.0 h.1)
      (complete_then _ (ops_complete more n os h.0 rest h.2 e (omega (arith, op_takes o bytes h.0 h.1)))
      (complete_ok refl) (λ w. omega (arith, le-max_right (depth o) (ops_depth os))))
      (λ w. omega (arith, le-max_left (depth o) (ops_depth os))))

pub body_complete :
    (more : ℕ) (os : Ops) (bytes rest : List ℕ) → AreOps bytes os rest → is_end rest ≡ true
    → Complete (ops_depth os ≤ more) (list_of os, rest) (read_body more bytes)
body_complete more os bytes rest h e =
    as_body more bytes (ops_complete more (length bytes) os bytes rest h e (omega arith))

nests :
    (limited : Bool) (os : Ops) (bytes : List ℕ) → (limited ≡ true → NestsWithin os) → ops_depth os ≤ length bytes
    → ops_depth os ≤ nesting limited bytes
unfolding nesting
nests true os bytes w few = w refl
nests false os bytes w few = few

pub expression_complete :
    (limited : Bool) (os : Ops) (bytes rest : List ℕ) → IsExpression bytes os rest
    → Complete (limited ≡ true → NestsWithin os) (os, rest) (read_expression limited bytes)
unfolding read_expression
expression_complete limited os bytes rest h =
    complete_then _
    (as_body (nesting limited bytes) bytes
    (ops_complete (nesting limited bytes) (length bytes) os bytes (end_byte ∷ rest) h
    (end_ends rest) (omega arith)))
    (complete_then _ (skip_complete end_byte rest) (complete_ok (λ i. (ops-list os i, rest))) always)
    (λ w. nests limited os bytes w (omega (arith, ops_take os bytes (end_byte ∷ rest) h)))

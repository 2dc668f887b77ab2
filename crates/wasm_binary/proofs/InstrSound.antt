-- The readers of instructions are sound, and answer a limit only if too many blocks are open at once.
use Rattle.std.proofs.Common.{◌≡◌, ℕ, zero, suc, ◌≤◌, Bool, true, false, cond, eqb, List, [], ◌∷◌, length, drop, Ok, Err, Option, Some, None, ◌⊎◌, refl, sym, ap, subst, ◌∙◌, arith, inl, inr}
use Rattle.std.specs.Prelude.{◌||◌}
use Rattle.std.proofs.Math.Nat.{max-le}
use Rattle.std.proofs.lemmas.Bool.{eqb-true}
use Rattle.std.proofs.lemmas.Option.{same_Some}
use Rattle.wasm_ast.specs.declared.values.Value.TheVariants.{I32, I64}
use Rattle.wasm_ast.specs.declared.instr.BlockType.{BlockType}
use Rattle.wasm_ast.specs.declared.instr.Simple.{Simple}
use Rattle.wasm_ast.specs.declared.instr.Simple.TheVariants.{Unreachable, Nop, Br, BrIf, BrTable, Return, Call, CallIndirect, Drop, Select, Local, Global, Load, Store, MemorySize, MemoryGrow, Const, Unary, Binary, Test, Compare, Convert}
use Rattle.wasm_ast.specs.Syntax.{Op, simple, block, loop, if', Ops, stop, next, ops_of}
use Rattle.wasm_ast.specs.Limits.{max_nesting, depth, ops_depth}
use Rattle.wasm_ast.proofs.LimitLemmas.{NestsWithin}
use Rattle.wasm_binary.specs.declared.fault.Fault.TheVariants.{Over}
use Rattle.wasm_binary.specs.Numbers.{IsU32}
use Rattle.wasm_binary.specs.Opcodes.{opcode, reserved_byte, block_byte, loop_byte, if_byte, else_byte, end_byte}
use Rattle.wasm_binary.specs.Grammar.{IsBlockType, IsMemArg, AreImmediates, IsSimple, IsOp, AreOps, IsExpression}
use Rattle.wasm_binary.specs.Limits.{OpensBlock, TooDeep}
use Rattle.wasm_binary.specs.Inside.Reading.{Read, begins_with, read_u32, controls, comparisons, arithmetics, find_opcode, arithmetic_of, comparison_of, instruction_of, read_mem_arg, with_index, read_index, read_reserved, read_call_indirect, read_const, read_br_table, read_immediates, read_as, read_simple, Inner, read_enclosed, read_else, read_if, read_nested, opens_block, read_with_opcode, read_op, is_end, read_ops, read_body, nesting, read_expression}
use Rattle.wasm_binary.proofs.ReadSound.{Sound, sound_ok, sound_then, sound_more, sound_if, sound_over, sound_bad, never, begins_is, skip_sound, byte_sound, u32_sound, signed_sound, vector_sound, block_type_sound}

-- ---- instructions without bodies

found :
    (t : Bool) (u s : Simple) (b : ℕ) (others : Option Simple) → eqb b (opcode u) ≡ t → (others ≡ Some s → opcode s ≡ b)
    → cond t (Some u) others ≡ Some s → opcode s ≡ b
found true u s b others t o e = ap opcode (sym (same_Some u s e)) ∙ sym (eqb-true b (opcode u) t)
found false u s b others t o e = o e

find_sound :
    (ss : List Simple) (others : Option Simple) (b : ℕ) (s : Simple) → (others ≡ Some s → opcode s ≡ b)
    → find_opcode ss others b ≡ Some s → opcode s ≡ b
unfolding find_opcode
find_sound [] others b s o e = o e
find_sound (u ∷ us) others b s o e =
    found (eqb b (opcode u)) u s b (find_opcode us others b) refl (find_sound us others b s o) e

instruction_sound : (b : ℕ) (s : Simple) → instruction_of b ≡ Some s → opcode s ≡ b
unfolding instruction_of comparison_of arithmetic_of
instruction_sound b s e =
    find_sound controls (comparison_of b) b s
    (find_sound comparisons (arithmetic_of b) b s (find_sound arithmetics None b s (λ n. absurd cc))) e

mem_arg_sound : (bytes : List ℕ) → Sound (λ x. IsMemArg bytes x.0 x.1) ⊥ (read_mem_arg bytes)
unfolding read_mem_arg
mem_arg_sound bytes =
    sound_then (u32_sound bytes)
    (λ a ha. sound_then (u32_sound a.1)
    (λ o ho. sound_ok (record { align = a.0; offset = o.0 }, o.1) (a.1, ha, ho)) never) never

-- the same opcode, and its immediates
abbrev Likewise : Simple → List ℕ → Simple × List ℕ → Type 0
Likewise s bytes x = (opcode x.0 ≡ opcode s) × AreImmediates bytes x.0 x.1

immediates_sound : (s : Simple) (bytes : List ℕ) → Sound (Likewise s bytes) ⊥ (read_immediates s bytes)
unfolding read_immediates read_index with_index read_reserved read_call_indirect read_const read_br_table
immediates_sound (Br label) bytes = sound_then (u32_sound bytes) (λ n hn. sound_ok (Br n.0, n.1) (refl, hn)) never
immediates_sound (BrIf label) bytes = sound_then (u32_sound bytes) (λ n hn. sound_ok (BrIf n.0, n.1) (refl, hn)) never
immediates_sound (Call func) bytes = sound_then (u32_sound bytes) (λ n hn. sound_ok (Call n.0, n.1) (refl, hn)) never
immediates_sound (Local op index) bytes =
    sound_then (u32_sound bytes) (λ n hn. sound_ok (Local op n.0, n.1) (refl, hn)) never
immediates_sound (Global op index) bytes =
    sound_then (u32_sound bytes) (λ n hn. sound_ok (Global op n.0, n.1) (refl, hn)) never
immediates_sound (Load op at) bytes =
    sound_then (mem_arg_sound bytes) (λ a ha. sound_ok (Load op a.0, a.1) (refl, ha)) never
immediates_sound (Store op at) bytes =
    sound_then (mem_arg_sound bytes) (λ a ha. sound_ok (Store op a.0, a.1) (refl, ha)) never
immediates_sound (BrTable other labels) bytes =
    sound_then (vector_sound IsU32 read_u32 u32_sound bytes)
    (λ ls hls. sound_then (u32_sound ls.1) (λ n hn. sound_ok (BrTable n.0 ls.0, n.1) (refl, (ls.1, hls, hn))) never)
    never
immediates_sound (CallIndirect index) bytes =
    sound_then (u32_sound bytes)
    (λ n hn. sound_then (skip_sound reserved_byte n.1)
    (λ rest hr. sound_ok (CallIndirect n.0, rest) (refl, subst (IsU32 bytes n.0) hr hn)) never) never
immediates_sound MemorySize bytes =
    sound_then (skip_sound reserved_byte bytes) (λ rest hr. sound_ok (MemorySize, rest) (refl, hr)) never
immediates_sound MemoryGrow bytes =
    sound_then (skip_sound reserved_byte bytes) (λ rest hr. sound_ok (MemoryGrow, rest) (refl, hr)) never
immediates_sound (Const (I32 z)) bytes =
    sound_then (signed_sound 32 bytes) (λ n hn. sound_ok (Const (I32 n.0), n.1) (refl, hn)) never
immediates_sound (Const (I64 z)) bytes =
    sound_then (signed_sound 64 bytes) (λ n hn. sound_ok (Const (I64 n.0), n.1) (refl, hn)) never
immediates_sound Unreachable bytes = sound_ok (Unreachable, bytes) (refl, refl)
immediates_sound Nop bytes = sound_ok (Nop, bytes) (refl, refl)
immediates_sound Return bytes = sound_ok (Return, bytes) (refl, refl)
immediates_sound Drop bytes = sound_ok (Drop, bytes) (refl, refl)
immediates_sound Select bytes = sound_ok (Select, bytes) (refl, refl)
immediates_sound (Unary t op) bytes = sound_ok (Unary t op, bytes) (refl, refl)
immediates_sound (Binary t op) bytes = sound_ok (Binary t op, bytes) (refl, refl)
immediates_sound (Test t op) bytes = sound_ok (Test t op, bytes) (refl, refl)
immediates_sound (Compare t op) bytes = sound_ok (Compare t op, bytes) (refl, refl)
immediates_sound (Convert op) bytes = sound_ok (Convert op, bytes) (refl, refl)

as_sound :
    (b : ℕ) (bytes : List ℕ) (o : Option Simple) → instruction_of b ≡ o
    → Sound (λ x. IsSimple (b ∷ bytes) x.0 x.1) ⊥ (read_as o bytes)
unfolding read_as
as_sound b bytes None e = sound_bad
as_sound b bytes (Some s) e =
    sound_more (immediates_sound s bytes)
    (λ x h. (bytes, ap (λ (n : ℕ). n ∷ bytes) (sym (h.0 ∙ instruction_sound b s e)), h.1)) never

simple_sound : (b : ℕ) (bytes : List ℕ) → Sound (λ x. IsSimple (b ∷ bytes) x.0 x.1) ⊥ (read_simple b bytes)
unfolding read_simple
simple_sound b bytes = as_sound b bytes (instruction_of b) refl

-- ---- instructions with bodies

-- a body, in which no more than this many blocks are open
abbrev BodyRead : (more : ℕ) → List ℕ → List Op × List ℕ → Type 0
BodyRead more bytes x = AreOps bytes (ops_of x.0) x.1 × (ops_depth (ops_of x.0) ≤ more)

abbrev BodySound : (more : ℕ) → (List ℕ → Read (List Op)) → Type 0
BodySound more read = (bytes : List ℕ) → Sound (BodyRead more bytes) (TooDeep more bytes) (read bytes)

abbrev EnclosedRead : (more : ℕ) → List ℕ → (BlockType × Ops) × List ℕ → Type 0
EnclosedRead more bytes x =
    (mid : List ℕ) × IsBlockType bytes x.0.0 mid × AreOps mid x.0.1 (end_byte ∷ x.1) × (ops_depth x.0.1 ≤ more)

-- after a type, too many are open
abbrev TypeThen : (List ℕ → Type 0) → List ℕ → Type 0
TypeThen P bytes = (type : BlockType) × (mid : List ℕ) × IsBlockType bytes type mid × P mid

enclosed_sound :
    (more : ℕ) (read : List ℕ → Read (List Op)) → BodySound more read → (bytes : List ℕ)
    → Sound (EnclosedRead more bytes) (TypeThen (TooDeep more) bytes) (read_enclosed read bytes)
unfolding read_enclosed
enclosed_sound more read each bytes =
    sound_then (block_type_sound bytes)
    (λ t ht. sound_then (each t.1) (λ os hos. sound_then (skip_sound end_byte os.1) (λ rest hr.
    sound_ok ((t.0, ops_of os.0), rest) (t.1, ht, subst (AreOps t.1 (ops_of os.0)) hr hos.0, hos.1)) never)
    (λ q. (t.0, t.1, ht, q))) never

-- an else arm, or none
abbrev ArmRead : (more : ℕ) → List ℕ → List Op × List ℕ → Type 0
ArmRead more bytes x =
    (((x.0 ≡ []) × (x.1 ≡ bytes)) ⊎ ((from : List ℕ) × (bytes ≡ else_byte ∷ from) × AreOps from (ops_of x.0) x.1))
    × (ops_depth (ops_of x.0) ≤ more)

abbrev ElseRead : (more : ℕ) → List ℕ → List Op × List ℕ → Type 0
ElseRead more bytes x =
    (((x.0 ≡ []) × (bytes ≡ end_byte ∷ x.1))
    ⊎ ((from : List ℕ) × (bytes ≡ else_byte ∷ from) × AreOps from (ops_of x.0) (end_byte ∷ x.1)))
    × (ops_depth (ops_of x.0) ≤ more)

abbrev ElseOver : (more : ℕ) → List ℕ → Type 0
ElseOver more bytes = (from : List ℕ) × (bytes ≡ else_byte ∷ from) × TooDeep more from

arm_ended :
    (more : ℕ) (bytes : List ℕ) (arm : List Op × List ℕ) (rest : List ℕ) → ArmRead more bytes arm
    → arm.1 ≡ end_byte ∷ rest → ElseRead more bytes (arm.0, rest)
arm_ended more bytes arm rest (inl h, few) e = (inl (h.0, sym h.1 ∙ e), few)
arm_ended more bytes arm rest (inr h, few) e = (inr (h.0, h.1, subst (AreOps h.0 (ops_of arm.0)) e h.2), few)

else_sound :
    (more : ℕ) (read : List ℕ → Read (List Op)) → BodySound more read → (bytes : List ℕ)
    → Sound (ElseRead more bytes) (ElseOver more bytes) (read_else read bytes)
unfolding read_else
else_sound more read each bytes =
    sound_then {P = ArmRead more bytes} {Q = ElseOver more bytes} (sound_if (begins_with else_byte bytes)
    (λ e. sound_more (each (drop 1 bytes)) (λ x h. (inr (drop 1 bytes, begins_is else_byte bytes e, h.0), h.1))
    (λ q. (drop 1 bytes, begins_is else_byte bytes e, q)))
    (λ _. sound_ok ([], bytes) (inl (refl, refl), omega arith)))
    (λ arm ha. sound_then (skip_sound end_byte arm.1)
    (λ rest hr. sound_ok (arm.0, rest) (arm_ended more bytes arm rest ha hr)) never) (λ q. q)

-- an instruction in which no more than this many blocks are open
abbrev OpRead : (more : ℕ) → List ℕ → Op × List ℕ → Type 0
OpRead more bytes x = IsOp bytes x.0 x.1 × (depth x.0 ≤ more)

-- too many are open in the then arm, or after it in the else arm
abbrev ArmsOver : (more : ℕ) → List ℕ → Type 0
ArmsOver more bytes =
    TooDeep more bytes
    ⊎ ((then_arm : Ops) × (from : List ℕ) × AreOps bytes then_arm (else_byte ∷ from) × TooDeep more from)

if_made :
    (more : ℕ) (bytes : List ℕ) (t : BlockType × List ℕ) (first second : List Op × List ℕ) → IsBlockType bytes t.0 t.1
    → BodyRead more t.1 first → ElseRead more first.1 second
    → OpRead (suc more) (if_byte ∷ bytes) (if' t.0 (ops_of first.0) (ops_of second.0), second.1)
if_made more bytes t first second ht h (inl k, few) = (
  (bytes, t.1, refl, ht, inl (subst (AreOps t.1 (ops_of first.0)) k.1 h.0, ap ops_of k.0)),
  omega (arith, max-le h.1 few),
)
if_made more bytes t first second ht h (inr k, few) =
    ((bytes, t.1, refl, ht, inr (k.0, subst (AreOps t.1 (ops_of first.0)) k.1 h.0, k.2)), omega (arith, max-le h.1 few))

if_sound :
    (more : ℕ) (read : List ℕ → Read (List Op)) → BodySound more read → (bytes : List ℕ)
    → Sound (OpRead (suc more) (if_byte ∷ bytes)) (TypeThen (ArmsOver more) bytes) (read_if read bytes)
unfolding read_if
if_sound more read each bytes =
    sound_then (block_type_sound bytes)
    (λ t ht. sound_then (each t.1) (λ first h. sound_then (else_sound more read each first.1) (λ second k.
    sound_ok (if' t.0 (ops_of first.0) (ops_of second.0), second.1) (if_made more bytes t first second ht h k))
    (λ q. (t.0, t.1, ht, inr (ops_of first.0, q.0, subst (AreOps t.1 (ops_of first.0)) q.1 h.0, q.2))))
    (λ q. (t.0, t.1, ht, inl q))) never

deep_body :
    (more b : ℕ) (bytes : List ℕ) → OpensBlock b → TypeThen (TooDeep more) bytes → TooDeep (suc more) (b ∷ bytes)
unfolding TooDeep
deep_body more b bytes o q = (stop, b ∷ bytes, q.1, refl, (b, bytes, q.0, refl, o, q.2), inl q.3)

deep_arms : (more : ℕ) (bytes : List ℕ) → TypeThen (ArmsOver more) bytes → TooDeep (suc more) (if_byte ∷ bytes)
unfolding TooDeep
deep_arms more bytes (type, mid, ht, inl q) =
    (stop, if_byte ∷ bytes, mid, refl, (if_byte, bytes, type, refl, inr (inr refl), ht), inl q)
deep_arms more bytes (type, mid, ht, inr q) = (
  stop,
  if_byte ∷ bytes,
  mid,
  refl,
  (if_byte, bytes, type, refl, inr (inr refl), ht),
  inr (bytes, refl, q.0, q.1, q.2, q.3),
)

nested_sound :
    (more : ℕ) (read : List ℕ → Read (List Op)) → BodySound more read → (b : ℕ) (bytes : List ℕ) → OpensBlock b
    → Sound (OpRead (suc more) (b ∷ bytes)) (TooDeep (suc more) (b ∷ bytes)) (read_nested read b bytes)
unfolding read_nested
nested_sound more read each b bytes (inl e) = rw e (sound_then (enclosed_sound more read each bytes)
    (λ x h. sound_ok (block x.0.0 x.0.1, x.1) ((bytes, h.0, refl, h.1, h.2), omega (arith, h.3)))
    (deep_body more block_byte bytes (inl refl)))
nested_sound more read each b bytes (inr (inl e)) = rw e (sound_then (enclosed_sound more read each bytes)
    (λ x h. sound_ok (loop x.0.0 x.0.1, x.1) ((bytes, h.0, refl, h.1, h.2), omega (arith, h.3)))
    (deep_body more loop_byte bytes (inr (inl refl))))
nested_sound more read each b bytes (inr (inr e)) =
    rw e (sound_more (if_sound more read each bytes) (λ x h. h) (deep_arms more bytes))

either_true : (a b : Bool) → (a || b) ≡ true → (a ≡ true) ⊎ (b ≡ true)
either_true true b e = inl refl
either_true false b e = inr e

opens_is : (b : ℕ) → opens_block b ≡ true → OpensBlock b
unfolding opens_block
opens_is b e = elim (either_true (eqb b block_byte || eqb b loop_byte) (eqb b if_byte) e) [
  | inl h ↦ elim (either_true (eqb b block_byte) (eqb b loop_byte) h) [
    | inl k ↦ inl (eqb-true b block_byte k)
    | inr k ↦ inr (inl (eqb-true b loop_byte k))
  ]
  | inr h ↦ inr (inr (eqb-true b if_byte h))
]

-- how an instruction is read where this many more blocks may be open
abbrev OpSound : (more : ℕ) → Inner → Type 0
OpSound more inner =
    (b : ℕ) (bytes : List ℕ)
    → Sound (OpRead more (b ∷ bytes)) (TooDeep more (b ∷ bytes)) (read_with_opcode inner b bytes)

none_sound : OpSound 0 (Err Over)
unfolding read_with_opcode TooDeep
none_sound b bytes = sound_if (opens_block b)
    (λ e. sound_over (stop, b, bytes, refl, opens_is b e))
    (λ _. sound_then (simple_sound b bytes) (λ s hs. sound_ok (simple s.0, s.1) (hs, omega arith)) never)

some_sound : (more : ℕ) (read : List ℕ → Read (List Op)) → BodySound more read → OpSound (suc more) (Ok read)
unfolding read_with_opcode
some_sound more read each b bytes = sound_if (opens_block b)
    (λ e. nested_sound more read each b bytes (opens_is b e))
    (λ _. sound_then (simple_sound b bytes) (λ s hs. sound_ok (simple s.0, s.1) (hs, omega arith)) never)

op_sound :
    (more : ℕ) (inner : Inner) → OpSound more inner → (bytes : List ℕ)
    → Sound (OpRead more bytes) (TooDeep more bytes) (read_op inner bytes)
unfolding read_op
op_sound more inner each bytes = sound_then (byte_sound bytes) (λ b hb. rw hb (each b.0 b.1)) never

-- one more whole instruction first
deeper : (more : ℕ) (bytes : List ℕ) (o : Op) (mid : List ℕ) → IsOp bytes o mid → TooDeep more mid → TooDeep more bytes
unfolding TooDeep
deeper zero bytes o mid h q = (next o q.0, q.1, q.2, (mid, h, q.3), q.4)
deeper (suc more) bytes o mid h q = (next o q.0, q.1, q.2, (mid, h, q.3), q.4, q.5)

ops_sound :
    (more : ℕ) (inner : Inner) → OpSound more inner → (most : ℕ) (bytes : List ℕ)
    → Sound (BodyRead more bytes) (TooDeep more bytes) (read_ops inner most bytes)
unfolding read_ops
ops_sound more inner each zero bytes = sound_bad
ops_sound more inner each (suc n) bytes = sound_if (is_end bytes)
    (λ _. sound_ok ([], bytes) (refl, omega arith))
    (λ _. sound_then (op_sound more inner each bytes) (λ o ho. sound_then (ops_sound more inner each n o.1)
    (λ os hos. sound_ok (o.0 ∷ os.0, os.1) ((o.1, ho.0, hos.0), max-le ho.1 hos.1))
    (deeper more bytes o.0 o.1 ho.0)) (λ q. q))

body_sound : (more : ℕ) → BodySound more (read_body more)
unfolding read_body
body_sound zero bytes = ops_sound 0 (Err Over) none_sound (length bytes) bytes
body_sound (suc more) bytes =
    ops_sound (suc more) (Ok (read_body more)) (some_sound more (read_body more) (body_sound more)) (length bytes) bytes

pub expression_sound :
    (bytes : List ℕ)
    → Sound (λ x. IsExpression bytes x.0 x.1 × NestsWithin x.0) (TooDeep max_nesting bytes) (read_expression true bytes)
unfolding read_expression nesting
expression_sound bytes =
    sound_then (body_sound max_nesting bytes) (λ os hos. sound_then (skip_sound end_byte os.1) (λ rest hr.
    sound_ok (ops_of os.0, rest) (subst (AreOps bytes (ops_of os.0)) hr hos.0, hos.1)) never) (λ q. q)

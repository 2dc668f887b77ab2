-- How the logic stores a sequence of instructions, so that two of them can be told apart: each form has a
-- tag, and simple instructions and block types are stored by codes of their own. No case is added here when
-- a simple instruction is added.
use Rattle.std.specs.Prelude.{◌≡◌, ℕ, zero, suc, refl}
use mathlib.Core.Path.{sym, ap, subst}
use base.Stored.{Gv, gnil, gnum, gcons, Coded}
use Rattle.wasm_ast.specs.contracts.instr.Simple as simples
use Rattle.wasm_ast.specs.contracts.instr.BlockType as types
use Rattle.wasm_ast.specs.Syntax.{Op, simple, block, loop, if', Ops, stop, next}

abbrev head : Gv → Gv
head gnil = gnil
head (gnum n) = gnil
head (gcons a b) = a

abbrev tail : Gv → Gv
tail gnil = gnil
tail (gnum n) = gnil
tail (gcons a b) = b

abbrev num : Gv → ℕ
num gnil = 0
num (gnum n) = n
num (gcons a b) = 0

-- the tag of a stored instruction
abbrev tag : Gv → ℕ
tag g = num (head g)

abbrev IsCons : Gv → Type 0
IsCons gnil = ⊥
IsCons (gnum n) = ⊥
IsCons (gcons a b) = Unit {0}

abbrev AreSame : ℕ → ℕ → Type 0
AreSame zero zero = Unit {0}
AreSame zero (suc m) = ⊥
AreSame (suc n) zero = ⊥
AreSame (suc n) (suc m) = AreSame n m

abbrev mutual
  pub code_op : Op → Gv
  code_op (simple s) = gcons (gnum 0) (simples.the_row.coded.code s)
  code_op (block type body) = gcons (gnum 1) (gcons (types.the_row.coded.code type) (code_ops body))
  code_op (loop type body) = gcons (gnum 2) (gcons (types.the_row.coded.code type) (code_ops body))
  code_op (if' type then_arm else_arm) =
      gcons (gnum 3)
      (gcons (types.the_row.coded.code type) (gcons (code_ops then_arm) (code_ops else_arm)))

  pub code_ops : Ops → Gv
  code_ops stop = gnil
  code_ops (next o os) = gcons (code_op o) (code_ops os)

mutual
  pub op-inj : (x y : Op) → code_op x ≡ code_op y → x ≡ y
  op-inj (simple s) (simple u) p = ap simple (simples.the_row.coded.inj s u (ap tail p))
  op-inj (simple s) (block type body) p = absurd (subst (AreSame 0) (ap tag p) tt)
  op-inj (simple s) (loop type body) p = absurd (subst (AreSame 0) (ap tag p) tt)
  op-inj (simple s) (if' type then_arm else_arm) p = absurd (subst (AreSame 0) (ap tag p) tt)
  op-inj (block type body) (simple s) p = absurd (subst (AreSame 1) (ap tag p) tt)
  op-inj (block type body) (block other rest) p =
      λ i. block (types.the_row.coded.inj type other (ap (λ g. head (tail g)) p) i)
      (ops-inj body rest (ap (λ g. tail (tail g)) p) i)
  op-inj (block type body) (loop other rest) p = absurd (subst (AreSame 1) (ap tag p) tt)
  op-inj (block type body) (if' other then_arm else_arm) p =
      absurd (subst (AreSame 1) (ap tag p) tt)
  op-inj (loop type body) (simple s) p = absurd (subst (AreSame 2) (ap tag p) tt)
  op-inj (loop type body) (block other rest) p = absurd (subst (AreSame 2) (ap tag p) tt)
  op-inj (loop type body) (loop other rest) p =
      λ i. loop (types.the_row.coded.inj type other (ap (λ g. head (tail g)) p) i)
      (ops-inj body rest (ap (λ g. tail (tail g)) p) i)
  op-inj (loop type body) (if' other then_arm else_arm) p = absurd (subst (AreSame 2) (ap tag p) tt)
  op-inj (if' type first second) (simple s) p = absurd (subst (AreSame 3) (ap tag p) tt)
  op-inj (if' type first second) (block other rest) p = absurd (subst (AreSame 3) (ap tag p) tt)
  op-inj (if' type first second) (loop other rest) p = absurd (subst (AreSame 3) (ap tag p) tt)
  op-inj (if' type first second) (if' other third fourth) p =
      λ i. if' (types.the_row.coded.inj type other (ap (λ g. head (tail g)) p) i)
      (ops-inj first third (ap (λ g. head (tail (tail g))) p) i)
      (ops-inj second fourth (ap (λ g. tail (tail (tail g))) p) i)

  pub ops-inj : (x y : Ops) → code_ops x ≡ code_ops y → x ≡ y
  ops-inj stop stop p = refl
  ops-inj stop (next o os) p = absurd (subst IsCons (sym p) tt)
  ops-inj (next o os) stop p = absurd (subst IsCons p tt)
  ops-inj (next o os) (next u us) p =
      λ i. next (op-inj o u (ap head p) i) (ops-inj os us (ap tail p) i)

abbrev pub ops_code : Coded Ops
ops_code = record { code = code_ops; inj = ops-inj }

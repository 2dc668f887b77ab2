-- Points before places of worked bodies.
use Rattle.std.proofs.Common.{◌≡◌, ℕ, ◌-◌, ◌<◌, ◌≤◌, inl, inr, List, [], ◌∷◌, map, reverse, Option, Some, None, refl, sym, ap, subst, ◌∙◌, arith}
use Rattle.wasm_ast.specs.declared.values.ValType.{ValType}
use Rattle.wasm_ast.specs.declared.values.ValType.TheVariants.{I32}
use Rattle.wasm_ast.specs.declared.values.FuncType.{FuncType}
use Rattle.wasm_ast.specs.declared.operators.BinaryOp.TheVariants.{Add}
use Rattle.wasm_ast.specs.declared.instr.BlockType.TheVariants.{One}
use Rattle.wasm_ast.specs.declared.module.Module.{Module}
use Rattle.wasm_ast.specs.Syntax.{Op, Ops, next, count, ops_of}
use Rattle.validator.specs.Typing.{Context, under, body_context, OpTyped, Typed}
use Rattle.validator.specs.PlaceTypes.{Point, Passes, OpPasses, IsOwn, Known, MatchPoint}
use Rattle.validator.specs.Worked.{func, func_type, with_body, LeadsTo, MayLeadTo, MayPass, point_of, branch_body, i32_const, br, binary, block_of}
use Rattle.validator.proofs.PlaceExact.{either}
use Rattle.validator.proofs.PlacesOfModules.{surely, known, leads_to, known_sound, known_exact, matches, one_function}

abbrev worked : (gives : List ValType) → List Op → Module
worked gives os = with_body (func_type [] gives) [] os

abbrev worked_known : (gives : List ValType) → List Op → (place : ℕ) → Option Known
worked_known gives os place = known (worked gives os) (func 0 [] os) (func_type [] gives) place

is_own : (gives : List ValType) (os : List Op) → IsOwn (worked gives os) 1 (func 0 [] os)
is_own gives os = (omega arith, refl)

pub worked_leads : (gives : List ValType) (os : List Op) (place : ℕ) (p : Point)
    → worked_known gives os place ≡ Some (record { labels = p.labels; stacks = map surely p.stacks })
    → LeadsTo gives os place p
worked_leads gives os place p h =
    leads_to (worked gives os) 1 place (func 0 [] os) (func_type [] gives) p (is_own gives os) refl h

pub worked_may : (gives : List ValType) (os : List Op) (place : ℕ) (k : Known) (p : Point)
    → worked_known gives os place ≡ Some k → MatchPoint k p → MayLeadTo gives os place p
worked_may gives os place k p h m =
    known_sound (worked gives os) 1 place (func 0 [] os) (func_type [] gives) (is_own gives os) refl k p h m

pub worked_only : (gives : List ValType) (os : List Op) (place : ℕ) (k : Known) (p : Point)
    → worked_known gives os place ≡ Some k → MayLeadTo gives os place p → MatchPoint k p
worked_only gives os place k p h r =
    matches (worked gives os) 1 place (func 0 [] os) (func_type [] gives) (is_own gives os) refl k p h r

pub worked_never : (gives : List ValType) (os : List Op) (place : ℕ) (p : Point) → worked_known gives os place ≡ None
    → MayLeadTo gives os place p → ⊥
worked_never gives os place p h r =
    let found =
    known_exact (worked gives os) 1 place (func 0 [] os) (func_type [] gives) (is_own gives os) refl p r in
    let no : Some found.0 ≡ None = sym found.1 ∙ h in
    none_known found.0 no
  where
    none_known : (k : Known) → Some k ≡ None → ⊥
    none_known k e = cc

-- ---- typings through a place

passes_past : (c : Context) (outside : List (List ValType)) (o : Op) (os : Ops) (old new : List ValType) (k : ℕ)
    (p : Point) → count o ≤ k → Passes c outside (next o os) old new k p
    → (between : List ValType) × OpTyped c o old between × Passes c outside os between new (k - count o) p
passes_past c outside o os old new k p n h =
    either h.1 (λ x. absurd (omega (arith, n, x.0))) (λ x. (h.0, x.1, x.2))

passes_in : (c : Context) (outside : List (List ValType)) (o : Op) (os : Ops) (old new : List ValType) (k : ℕ)
    (p : Point) → k < count o → Passes c outside (next o os) old new k p
    → (between : List ValType) × OpPasses c outside o old between k p × Typed c os between new
passes_in c outside o os old new k p n h =
    either h.1 (λ x. (h.0, x.1, x.2)) (λ x. absurd (omega (arith, n, x.0)))

abbrev one : List ValType
one = I32 ∷ []

abbrev two : List ValType
two = I32 ∷ I32 ∷ []

-- the contexts of the body with the branch and of the block in it
abbrev outer : Context
outer = body_context (worked one branch_body) (func_type [] one) (func 0 [] branch_body)

abbrev inner : Context
inner = under outer one

abbrev in_block : List Op
in_block = i32_const 4 ∷ br 0 ∷ binary I32 Add ∷ []

abbrev before : (ts : List ValType) → Point
before ts = point_of (one ∷ one ∷ []) (ts ∷ one ∷ [])

sum_passes : Passes inner (one ∷ []) (ops_of (binary I32 Add ∷ [])) two one 0 (before two)
sum_passes = (one, inl (omega arith, (([], refl, refl), refl), refl))

branch_passes : Passes inner (one ∷ []) (ops_of (br 0 ∷ binary I32 Add ∷ [])) one one 1 (before two)
branch_passes = (two, inr (omega arith, (one, [], refl, refl), sum_passes))

block_passes : Passes inner (one ∷ []) (ops_of in_block) [] one 2 (before two)
block_passes = (one, inr (omega arith, ([], refl, refl), branch_passes))

rest_passes :
    Passes outer [] (ops_of (block_of (One I32) in_block ∷ binary I32 Add ∷ [])) one one 3 (before two)
rest_passes =
    (two, inl (omega arith, (func_type [] one, one, refl, refl, refl, block_passes), (one, ([], refl, refl), refl)))

-- before the sum that follows the branch
pub before_sum : MayPass one branch_body 4 (before two)
before_sum = (
  func 0 [] branch_body,
  func_type [] one,
  is_own one branch_body,
  refl,
  (one, inr (omega arith, ([], refl, refl), rest_passes)),
)

-- the sum needs its operands, and nothing may be below them
sum_operands : (ts old rest : List ValType)
    → Passes inner (rest ∷ []) (ops_of (binary I32 Add ∷ [])) old one 0 (before ts) → ts ≡ two
sum_operands ts old rest h =
    let found = passes_in inner (rest ∷ []) (binary I32 Add) (ops_of []) old one 0 (before ts) (omega arith) h in
    let sum = found.1.0 in
    let result : I32 ∷ sum.0 ≡ one = sym sum.2 ∙ found.2 in
    let none : sum.0 ≡ [] = cc in
    let is : old ≡ two = sum.1 ∙ ap (λ (us : List ValType). I32 ∷ I32 ∷ us) none in
    let same : ts ∷ one ∷ [] ≡ old ∷ rest ∷ [] = ap (λ (p : Point). p.stacks) found.1.1 in
    let first : ts ≡ old = cc in
    first ∙ is

block_operands : (ts rest : List ValType) → Passes inner (rest ∷ []) (ops_of in_block) [] one 2 (before ts) → ts ≡ two
block_operands ts rest h =
    let p = before ts in
    let constant =
    passes_past inner (rest ∷ []) (i32_const 4) (ops_of (br 0 ∷ binary I32 Add ∷ [])) [] one 2 p (omega arith) h in
    let branch =
    passes_past inner (rest ∷ []) (br 0) (ops_of (binary I32 Add ∷ [])) constant.0 one 1 p (omega arith) constant.2 in
    sum_operands ts branch.0 rest branch.2

body_operands : (ts : List ValType) → Passes outer [] (ops_of branch_body) [] one 4 (before ts) → ts ≡ two
body_operands ts h =
    let p = before ts in
    let constant =
    passes_past outer [] (i32_const 1) (ops_of (block_of (One I32) in_block ∷ binary I32 Add ∷ [])) [] one 4 p
    (omega arith) h in
    let found =
    passes_in outer [] (block_of (One I32) in_block) (ops_of (binary I32 Add ∷ [])) constant.0 one 3 p (omega arith)
    constant.2 in
    let t = found.1.0 in
    let rest = found.1.1 in
    let some : Some (func_type [] one) ≡ Some t = found.1.2 in
    let same : func_type [] one ≡ t = cc in
    block_operands ts rest
    (subst (λ (t : FuncType). Passes (under outer t.results) (rest ∷ []) (ops_of in_block) (reverse t.params)
    (reverse t.results) 2 p) (sym same) found.1.5)

pub before_sum_only : (ts : List ValType) → MayPass one branch_body 4 (before ts) → ts ≡ two
before_sum_only ts h =
    let m = worked one branch_body in
    body_operands ts
    (one_function m 1 (func 0 [] branch_body) h.0 (func_type [] one) h.1
    (λ f t. Passes (body_context m t f) [] f.body [] (reverse t.results) 4 (before ts)) (is_own one branch_body) h.2
    refl h.3 h.4)

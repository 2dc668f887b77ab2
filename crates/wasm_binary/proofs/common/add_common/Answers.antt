use Rattle.std.proofs.Common.{◌≡◌, ◌∷◌, refl, rules}
use Rattle.wasm_ast.specs.Syntax.{simple}
use Rattle.wasm_ast.specs.declared.instr.LocalOp.TheVariants as local
use Rattle.wasm_ast.specs.declared.instr.Simple.TheVariants as instr
use Rattle.wasm_ast.specs.declared.values.Value.TheVariants as value
use Rattle.wasm_binary.specs.Inside.Reading.{opens_block, read_simple, read_as, instruction_of, comparison_of, arithmetic_of, find_opcode, read_immediates}
use Rattle.wasm_binary.proofs.CommonLemmas.{if_there, of_what_is_there, on_local, const, bare, operator, one_more}
use Rattle.wasm_binary.proofs.common.add_common.Goals as goal

pub returns-in-32-clause-some : goal.returns-in-32-clause-some
unfolding opens_block instruction_of comparison_of arithmetic_of find_opcode
returns-in-32-clause-some c =
    let split : c.args.bytes.now ≡ 32 ∷ c.in-Some.after.now = search rules in
    if_there c.add_local.result _ _
    (λ r p. (
      simple (instr.Local local.Get p.0),
      one_more _ _ (instr.Local local.Get p.0) p.2,
      λ inner. on_local inner c.args.bytes.now c.in-Some.after.now r.now 32 p.0 local.Get split refl refl p.1,
    ))
    c.add_local.ensures.some

pub returns-in-33-clause-some : goal.returns-in-33-clause-some
unfolding opens_block instruction_of comparison_of arithmetic_of find_opcode
returns-in-33-clause-some c =
    let split : c.args.bytes.now ≡ 33 ∷ c.in-Some.after.now = search rules in
    if_there c.add_local-in-33.result _ _
    (λ r p. (
      simple (instr.Local local.Set p.0),
      one_more _ _ (instr.Local local.Set p.0) p.2,
      λ inner. on_local inner c.args.bytes.now c.in-Some.after.now r.now 33 p.0 local.Set split refl refl p.1,
    ))
    c.add_local-in-33.ensures.some

pub returns-in-34-clause-some : goal.returns-in-34-clause-some
unfolding opens_block instruction_of comparison_of arithmetic_of find_opcode
returns-in-34-clause-some c =
    let split : c.args.bytes.now ≡ 34 ∷ c.in-Some.after.now = search rules in
    if_there c.add_local-in-34.result _ _
    (λ r p. (
      simple (instr.Local local.Tee p.0),
      one_more _ _ (instr.Local local.Tee p.0) p.2,
      λ inner. on_local inner c.args.bytes.now c.in-Some.after.now r.now 34 p.0 local.Tee split refl refl p.1,
    ))
    c.add_local-in-34.ensures.some

pub returns-in-65-clause-some : goal.returns-in-65-clause-some
returns-in-65-clause-some c =
    let split : c.args.bytes.now ≡ 65 ∷ c.in-Some.after.now = search rules in
    if_there c.add_const.result _ _
    (λ r p. (
      simple (instr.Const (value.I32 p.0)),
      one_more _ _ (instr.Const (value.I32 p.0)) p.2,
      λ inner. const inner c.args.bytes.now c.in-Some.after.now r.now p.0 split p.1,
    ))
    c.add_const.ensures.some

pub returns-in-26-clause-some : goal.returns-in-26-clause-some
unfolding opens_block read_simple read_as instruction_of comparison_of arithmetic_of find_opcode read_immediates
returns-in-26-clause-some c =
    let split : c.args.bytes.now ≡ 26 ∷ c.in-Some.after.now = search rules in
    if_there c.add_simple.result _ _
    (λ r p. (
      simple (instr.Drop),
      one_more _ _ (instr.Drop) p.1,
      λ inner. bare inner c.args.bytes.now c.in-Some.after.now r.now 26 (instr.Drop) split p.0 refl refl,
    ))
    c.add_simple.ensures.some

pub returns-in-Some-operator_of-clause-some : goal.returns-in-Some-operator_of-clause-some
returns-in-Some-operator_of-clause-some c =
    let b = c.in-Some.opcode.now in
    let t = c.in-Some-operator_of.val_type in
    let op = c.in-Some-operator_of.op in
    let split : c.args.bytes.now ≡ b ∷ c.in-Some.after.now = search rules in
    let plain = of_what_is_there c.operator_of.result (t, op) _ c.in-Some-operator_of.is c.operator_of.ensures.plain in
    let read = of_what_is_there c.operator_of.result (t, op) _ c.in-Some-operator_of.is c.operator_of.ensures.of in
    if_there c.add_simple-in-Some-operator_of.result _ _
    (λ r p. (
      simple (instr.Binary t op),
      one_more _ _ (instr.Binary t op) p.1,
      λ inner. operator inner c.args.bytes.now c.in-Some.after.now r.now b t op split p.0 plain read,
    ))
    c.add_simple-in-Some-operator_of.ensures.some

-- Small modules whose frames are shown.
use Rattle.std.specs.Prelude.{ℕ, ◌-◌, ◌^◌, List, [], ◌∷◌, Option}
use Rattle.wasm_ast.specs.declared.values.ValType.TheVariants as type
use Rattle.wasm_ast.specs.declared.values.Value.{Value}
use Rattle.wasm_ast.specs.declared.instr.BlockType.TheVariants.{Empty, One}
use Rattle.wasm_ast.specs.declared.instr.Simple.TheVariants as instr
use Rattle.wasm_ast.specs.declared.instr.LocalOp.TheVariants as local
use Rattle.wasm_ast.specs.declared.module.Module.{Module}
use Rattle.wasm_ast.specs.Syntax.{Op, simple, block, ops_of}
use Rattle.wasm_ast.specs.declared.shown.ShownFrame.{ShownFrame}
use Rattle.step_machine.specs.Worked.{i32_const, i64_const, drop', call, func, nothing_to_nothing, with_funcs}

-- function 1, the entry, has an i32 and an i64 as locals, and this body; function 2 is a nop
abbrev pub calling_nop : List Op → Module
calling_nop body = record (with_funcs [] nothing_to_nothing []) {
  funcs =
      func 1 (type.I32 ∷ type.I64 ∷ []) body ∷ func 1 [] (simple instr.Nop ∷ []) ∷ [];
}

-- i64.const -1 local.set 1 i32.const 5 block (result i32) i32.const 6 call 2 end drop drop
abbrev pub call_in_a_block : Module
call_in_a_block =
    calling_nop
    (i64_const (2 ^ 64 - 1) ∷ simple (instr.Local local.Set 1) ∷ i32_const 5
    ∷ block (One type.I32) (ops_of (i32_const 6 ∷ call 2 ∷ [])) ∷ drop' ∷ drop' ∷ [])

-- block call 2 end
abbrev pub call_at_the_end : Module
call_at_the_end = calling_nop (block Empty (ops_of (call 2 ∷ [])) ∷ [])

abbrev pub shown_frame :
    (func : ℕ) → (next : Option ℕ) → (labels : List ℕ) → (locals operands : List Value) → ShownFrame
shown_frame func next labels locals operands =
    record { func = func; next = next; labels = labels; locals = locals; operands = operands }

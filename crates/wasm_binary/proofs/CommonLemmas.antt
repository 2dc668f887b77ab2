-- Instructions that are read straight into a body.
use Rattle.std.proofs.Common.{◌≡◌, ◌++◌, ◌∷◌, [], List, ℕ, map, false, Option, Some, None, Result, Ok, Err, IfOk, refl, ap, subst, ◌∙◌}
use Rattle.std.specs.Prelude.{IfSome, IfNone}
use Rattle.std.proofs.lemmas.List.{map_push}
use Rattle.wasm_ast.specs.Syntax.{simple}
use Rattle.wasm_ast.specs.View.{op_of}
use Rattle.wasm_ast.specs.declared.instr.Instr.{Instr}
use Rattle.wasm_ast.specs.declared.instr.Instr.TheVariants as tree
use Rattle.wasm_ast.specs.declared.instr.Simple.{Simple}
use Rattle.wasm_ast.specs.declared.instr.Simple.TheVariants as instr
use Rattle.wasm_ast.specs.declared.instr.LocalOp.{LocalOp}
use Rattle.wasm_ast.specs.declared.operators.BinaryOp.{BinaryOp}
use Rattle.wasm_ast.specs.declared.values.ValType.{ValType}
use Rattle.wasm_ast.specs.declared.values.Value.TheVariants as value
use Rattle.wasm_binary.specs.Inside.Reading.{Inner, opens_block, read_simple, read_with_opcode, read_byte, read_op, read_as, instruction_of, find_opcode, read_immediates, read_index, with_index, read_u32, read_signed, read_const}

-- what is so of what is there, if it is there
pub if_there :
    {A E : Type 0} (r : Result (Option A) E) (P Q : A → Type 0) → ((x : A) → P x → Q x)
    → IfOk r (λ o. IfSome o P) → IfOk r (λ o. IfSome o Q)
if_there {A} {E} (Ok (Some x)) P Q f h = f x h
if_there {A} {E} (Ok None) P Q f h = tt
if_there {A} {E} (Err e) P Q f h = tt

-- what is so of what is there, of what it is
pub of_what_is_there : {A : Type 0} (o : Option A) (x : A) (P : A → Type 0) → o ≡ Some x → IfSome o P → P x
of_what_is_there {A} o x P is h = subst (λ (p : Option A). IfSome p P) is h

-- what is so where nothing is there
pub where_nothing_is : {A : Type 0} (o : Option A) (T : Type 0) → o ≡ None → IfNone o T → T
where_nothing_is {A} o T is h = subst (λ (p : Option A). IfNone p T) is h

-- an instruction without a body is read by its opcode
module _ (inner : Inner) (bytes after rest : List ℕ) where
  pub on_local :
      (b n : ℕ) (op : LocalOp) → bytes ≡ b ∷ after → opens_block b ≡ false
      → instruction_of b ≡ Some (instr.Local op 0) → read_u32 after ≡ Ok (n, rest)
      → read_op inner bytes ≡ Ok (simple (instr.Local op n), rest)
  unfolding read_op read_byte read_with_opcode read_simple read_as read_immediates read_index with_index
  on_local b n op is plain of h = rw (is, plain, of, h) refl

  pub const :
      (n : ℕ) → bytes ≡ 65 ∷ after → read_signed 32 after ≡ Ok (n, rest)
      → read_op inner bytes ≡ Ok (simple (instr.Const (value.I32 n)), rest)
  unfolding read_op read_byte read_with_opcode opens_block read_simple read_as instruction_of find_opcode
      read_immediates read_const
  const n is h = rw (is, h) refl

  pub bare :
      (b : ℕ) (s : Simple) → bytes ≡ b ∷ after → rest ≡ after → opens_block b ≡ false
      → read_simple b after ≡ Ok (s, after) → read_op inner bytes ≡ Ok (simple s, rest)
  unfolding read_op read_byte read_with_opcode
  bare b s is same plain read = rw (is, same, plain, read) refl

  pub operator :
      (b : ℕ) (t : ValType) (op : BinaryOp) → bytes ≡ b ∷ after → rest ≡ after → opens_block b ≡ false
      → instruction_of b ≡ Some (instr.Binary t op)
      → read_op inner bytes ≡ Ok (simple (instr.Binary t op), rest)
  unfolding read_op read_byte read_with_opcode read_simple read_as read_immediates
  operator b t op is same plain read = rw (is, same, plain, read) refl

-- one more is one more of the definition
pub one_more :
    (old new : List Instr) (s : Simple) → new ≡ old ++ tree.Simple s ∷ []
    → map op_of new ≡ map op_of old ++ simple s ∷ []
one_more old new s is = ap (map op_of) is ∙ map_push op_of old (tree.Simple s)

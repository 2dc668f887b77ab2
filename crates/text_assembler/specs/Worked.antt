-- Worked modules. The first names a function before it is written, and a label inside two blocks.
use Rattle.std.specs.Prelude.{[], ◌∷◌, Some}
use Rattle.wasm_ast.specs.declared.instr.Simple.TheVariants.{Br, Call, Drop, Const, Load, Convert}
use Rattle.wasm_ast.specs.declared.values.ValType.TheVariants as type
use Rattle.wasm_ast.specs.declared.values.Value.TheVariants.{I32}
use Rattle.wasm_ast.specs.declared.operators.LoadOp.TheVariants as load
use Rattle.wasm_ast.specs.declared.operators.ConvertOp.TheVariants as convert
use Rattle.wasm_ast.specs.declared.module.Mutability.TheVariants.{Var}
use Rattle.wasm_ast.specs.declared.instr.BlockType.TheVariants.{Empty, Index}
use Rattle.wasm_ast.specs.declared.module.Module.{Module}
use Rattle.wasm_ast.specs.Syntax.{simple, block, loop, if', ops_of}
use Rattle.text_assembler.specs.Modules.{no_fields}

abbrev pub worked : Module
worked = record no_fields {
  types = record { params = []; results = [] } ∷ [];
  funcs =
      record {
        type_index = 0;
        locals = [];
        body =
            ops_of
            (block Empty
            (ops_of (block Empty (ops_of (simple (Br 1) ∷ simple (Call 1) ∷ [])) ∷ [])) ∷ []);
      }
      ∷ record { type_index = 0; locals = []; body = ops_of [] } ∷ [];
  start = Some 1;
}

-- an offset, an alignment, and a constant with a sign
abbrev pub worked_access : Module
worked_access = record no_fields {
  memories = record { min = 1; max = Some 2 } ∷ [];
  globals =
      record {
        val_type = type.I32;
        mutability = Var;
        init =
            ops_of
            (simple (Const (I32 4294967295))
            ∷ simple (Load load.I32From16U (record { align = 0; offset = 4 })) ∷ []);
      }
      ∷ [];
}

-- blocks with the use of a type, also of one without parameters and results; and three results
abbrev pub worked_uses : Module
worked_uses = record no_fields {
  types =
      record { params = type.I32 ∷ []; results = type.I32 ∷ [] }
      ∷ record { params = []; results = [] }
      ∷ record { params = []; results = type.I32 ∷ type.I64 ∷ type.I32 ∷ [] } ∷ [];
  funcs =
      record {
        type_index = 1;
        locals = [];
        body =
            ops_of
            (block (Index 1) (ops_of []) ∷ simple (Const (I32 1))
            ∷ loop (Index 0) (ops_of (simple (Convert convert.I32From8S) ∷ []))
            ∷ if' (Index 0) (ops_of []) (ops_of []) ∷ simple Drop ∷ []);
      }
      ∷ [];
}

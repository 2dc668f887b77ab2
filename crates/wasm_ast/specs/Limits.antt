-- The limits of this profile on modules, and when a module is within them.
use Rattle.std.specs.Prelude.{ℕ, suc, ◌+◌, ◌≤◌, max, nat_le, List, [], ◌∷◌, length, All, Bool, true, ◌&&◌, option_map, unwrap_or, slice_get}
use Rattle.wasm_ast.specs.declared.values.FuncType.{FuncType}
use Rattle.wasm_ast.specs.declared.module.Func.{Func}
use Rattle.wasm_ast.specs.declared.module.Limits.{Limits}
use Rattle.wasm_ast.specs.declared.module.Global.{Global}
use Rattle.wasm_ast.specs.declared.module.Element.{Element}
use Rattle.wasm_ast.specs.declared.module.Segment.{Segment}
use Rattle.wasm_ast.specs.declared.module.Module.{Module}
use Rattle.wasm_ast.specs.Syntax.{Op, simple, block, loop, if', Ops, stop, next}

-- the bytes of a module
abbrev pub max_module_bytes : ℕ
max_module_bytes = 262144

-- functions of a module, imports included
abbrev pub max_functions : ℕ
max_functions = 4096

-- locals of a function, parameters included
abbrev pub max_locals : ℕ
max_locals = 1024

-- results of a function type
abbrev pub max_results : ℕ
max_results = 1024

-- blocks that are open at once
abbrev pub max_nesting : ℕ
max_nesting = 256

-- entries that a table begins with
abbrev pub max_table_entries : ℕ
max_table_entries = 4096

-- pages that a memory begins with
abbrev pub max_memory_pages : ℕ
max_memory_pages = 256

-- how many blocks are open at once
abbrev mutual
  pub depth : Op → ℕ
  depth (simple s) = 0
  depth (block type body) = suc (ops_depth body)
  depth (loop type body) = suc (ops_depth body)
  depth (if' type then_arm else_arm) = suc (max (ops_depth then_arm) (ops_depth else_arm))

  pub ops_depth : Ops → ℕ
  ops_depth stop = 0
  ops_depth (next o os) = max (depth o) (ops_depth os)

-- how many parameters a function has: none where its index names no type
abbrev pub params_of : List FuncType → ℕ → ℕ
params_of types i = unwrap_or (option_map (λ t. length t.params) (slice_get types i)) 0

pub record FuncWithin (types : List FuncType) (f : Func) : Type 0 where
  pub locals : params_of types f.type_index + length f.locals ≤ max_locals
  pub nesting : ops_depth f.body ≤ max_nesting

pub record Within (m : Module) : Type 0 where
  pub types : All (λ t. length t.results ≤ max_results) m.types
  pub functions : length m.imports + length m.funcs ≤ max_functions
  pub funcs : All (FuncWithin m.types) m.funcs
  pub tables : All (λ l. l.min ≤ max_table_entries) m.tables
  pub memories : All (λ l. l.min ≤ max_memory_pages) m.memories
  pub globals : All (λ g. ops_depth g.init ≤ max_nesting) m.globals
  pub elements : All (λ e. ops_depth e.offset ≤ max_nesting) m.elements
  pub segments : All (λ s. ops_depth s.offset ≤ max_nesting) m.segments

-- the same as a test
abbrev pub is_func_within : List FuncType → Func → Bool
is_func_within types f =
    nat_le (params_of types f.type_index + length f.locals) max_locals
    && nat_le (ops_depth f.body) max_nesting

abbrev pub are_all : {X : Type 0} → (X → Bool) → List X → Bool
are_all test [] = true
are_all test (x ∷ xs) = test x && are_all test xs

abbrev pub is_within : Module → Bool
is_within m =
    are_all (λ (t : FuncType). nat_le (length t.results) max_results) m.types
    && nat_le (length m.imports + length m.funcs) max_functions
    && are_all (is_func_within m.types) m.funcs
    && are_all (λ (l : Limits). nat_le l.min max_table_entries) m.tables
    && are_all (λ (l : Limits). nat_le l.min max_memory_pages) m.memories
    && are_all (λ (g : Global). nat_le (ops_depth g.init) max_nesting) m.globals
    && are_all (λ (e : Element). nat_le (ops_depth e.offset) max_nesting) m.elements
    && are_all (λ (s : Segment). nat_le (ops_depth s.offset) max_nesting) m.segments

-- How the logic stores a module, so that two of them can be told apart: by its parts, with the code of its
-- instructions.
use Rattle.std.specs.Coded.{Coded, codes}
use Rattle.wasm_ast.specs.declared.module.Module.{Module}
use Rattle.wasm_ast.specs.Inside.Code.{ops_code}

pub module_code : Coded Module
module_code = hlevel (codes, ops_code)

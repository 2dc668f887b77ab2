-- How the logic stores what contracts see of tasks, slices and boards, so that two can be told apart.
use Rattle.std.specs.Prelude.{List}
use Rattle.std.specs.Coded.{Coded, codes}
use Rattle.wasm_ast.specs.Inside.ModuleCode.{module_code}
use Rattle.task_board.specs.BoardState.{Task}
use Rattle.task_board.specs.BoardValue.{BoardValue}
use Rattle.task_board.specs.Loans.{Lent}
use Rattle.task_board.specs.Inside.OpenedModules.{OpenedModule}

pub task_code : Coded Task
task_code = hlevel (codes, module_code)

pub opened_code : Coded (List OpenedModule)
opened_code = hlevel (codes, module_code)

pub lent_code : Coded Lent
lent_code = hlevel (codes, module_code)

pub board_code : Coded BoardValue
board_code = hlevel (codes, module_code, task_code)

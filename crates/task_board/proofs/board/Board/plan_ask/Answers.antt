use Rattle.std.proofs.Common.{◌≡◌, ◌∙◌, true, Some, sym, rules}
use Rattle.slab.specs.Slab.{entries}
use Rattle.wasm_ast.specs.Identifiers.{is_id}
use Rattle.task_board.specs.BoardState.{entry_of}
use Rattle.task_board.proofs.EntryLemmas.{named}
use Rattle.task_board.proofs.AskLemmas.{planned_if}
use Rattle.task_board.proofs.board.Board.plan_ask.Goals as goal

pub plan-requires : goal.plan-requires
plan-requires c =
    let at : entry_of c.as_str-2.result.now (entries c.self.inside.tasks) ≡ Some (c.in-Some.slot, c.in-Some.task.now) =
    search rules in
    sym (named c.as_str-2.result.now (entries c.self.inside.tasks) (c.in-Some.slot, c.in-Some.task.now) at
    ∙ c.as_str-2.ensures)

pub returns-in-Some-clause-ok : goal.returns-in-Some-clause-ok
returns-in-Some-clause-ok c =
    let is_named : is_id c.args.id ≡ true = search rules in
    let at : entry_of c.args.id c.args.self.now.state.tasks ≡ Some (c.in-Some.slot, c.in-Some.task.now) =
    search rules in
    planned_if c.args.self.now.state c.args.id c.args.ask c.in-Some.slot c.in-Some.task.now is_named at
    c.args.self.now.room c.plan.result c.plan.ensures.ok

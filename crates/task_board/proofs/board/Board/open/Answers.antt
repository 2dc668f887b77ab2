use Rattle.std.proofs.Common.{◌≡◌, Some, sym, subst, rules}
use Rattle.std.specs.Arc.{arc_value}
use Rattle.wasm_ast.specs.declared.module.Module.{Module}
use Rattle.content_leases.specs.StoreState.{content_in}
use Rattle.task_board.specs.BoardValue.{BoardValue}
use Rattle.task_board.specs.Inside.OpenedModules.{module_in, IsOpen}
use Rattle.task_board.proofs.OpenedLemmas.{is_opened}
use Rattle.task_board.proofs.board.Board.open.Goals as goal

pub returns-in-Some-clause-ok : goal.returns-in-Some-clause-ok
returns-in-Some-clause-ok c =
    let b = c.self.inside in
    let bytes = arc_value c.args.bytes.now in
    let found : module_in b.opened c.args.digest.now ≡ Some c.in-Some.flat.now = search rules in
    let stored =
    subst (λ (v : BoardValue). content_in v.state.store.contents c.args.digest.now ≡ Some bytes)
    (sym c.self.view_is) c.requires in
    let is =
    is_opened b.store.state.contents b.opened c.args.digest.now bytes c.in-Some.flat.now
    c.self.invariant.opened found stored in
    let same : c.in_ok-share.field-0 ≡ c.in-Some.flat.now = search rules in
    subst (λ (m : Module). IsOpen bytes m) (sym same) is

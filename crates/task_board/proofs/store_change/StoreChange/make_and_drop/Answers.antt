use Rattle.std.proofs.Common.{◌≡◌, ◌∙◌, filter, is_some, false, List, sym, subst}
use Rattle.content_leases.specs.StoreState.{StoreState, content_in}
use Rattle.task_board.specs.Sound.{Each}
use Rattle.task_board.specs.Inside.StoreChanges.{removes}
use Rattle.task_board.specs.Inside.OpenedModules.{OpenedModule, IsOpened}
use Rattle.task_board.proofs.OpenedLemmas.{opened_kept, opened_left}
use Rattle.task_board.proofs.store_change.StoreChange.make_and_drop.Goals as goal

pub returns-then-removes-clause-opened : goal.returns-then-removes-clause-opened
returns-then-removes-clause-opened c =
    let os = c.args.opened.now in
    let P : StoreState → Type 0 =
    λ s. Each (IsOpened s.contents) (filter (λ (o : OpenedModule). is_some (content_in s.contents o.digest)) os) in
    let left =
    subst P (sym c.make-reply.ensures.leaves)
    (opened_left c.args.store.now.state c.args.self os c.requires.distinct c.requires.opened) in
    subst (λ (xs : List OpenedModule). Each (IsOpened c.make-reply.new.store.state.contents) xs)
    (sym c.keep_stored.ensures) left

pub returns-else-removes-clause-opened : goal.returns-else-removes-clause-opened
returns-else-removes-clause-opened c =
    let os = c.args.opened.now in
    let off : removes c.args.self ≡ false = sym c.removes-removes.ensures ∙ c.if-removes.false in
    let P : StoreState → Type 0 = λ s. Each (IsOpened s.contents) os in
    subst P (sym c.make-reply.ensures.leaves) (opened_kept c.args.store.now.state c.args.self os off c.requires.opened)

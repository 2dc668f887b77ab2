use Rattle.std.proofs.Common.{◌≡◌, List, None, Bool, sym, subst}
use Rattle.slab.specs.Slab.{entries}
use Rattle.content_leases.specs.StoreState.{is_among}
use Rattle.task_board.specs.BoardState.{used_by}
use Rattle.task_board.specs.Sound.{Each}
use Rattle.task_board.specs.Inside.OpenedModules.{OpenedModule, module_in, IsOpened}
use Rattle.task_board.proofs.OpenedLemmas.{each_filtered, absent_filtered}
use Rattle.task_board.proofs.opened.Opened.drop_idle.Goals as goal

pub returns-then-is_much_idle-clause-sound : goal.returns-then-is_much_idle-clause-sound
returns-then-is_much_idle-clause-sound c each =
    let test : OpenedModule → Bool = λ o. is_among o.digest (used_by (entries c.args.tasks.now)) in
    let P : OpenedModule → Type 0 = IsOpened c.args.store.now.state.contents in
    subst (λ (os : List OpenedModule). Each P os) (sym c.keep_used.ensures) (each_filtered P test c.args.self.now each)

pub returns-then-is_much_idle-clause-absent :
    goal.returns-then-is_much_idle-clause-absent
returns-then-is_much_idle-clause-absent c digest none =
    let test : OpenedModule → Bool = λ o. is_among o.digest (used_by (entries c.args.tasks.now)) in
    subst (λ (os : List OpenedModule). module_in os digest ≡ None) (sym c.keep_used.ensures)
    (absent_filtered test digest c.args.self.now none)

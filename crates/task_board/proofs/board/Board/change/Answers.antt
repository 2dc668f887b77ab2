use Rattle.std.proofs.Common.{◌≡◌, ◌∙◌, Some, None, Ok, sym, subst, rules}
use Rattle.slab.specs.Slab.{get}
use Rattle.task_requests.specs.declared.request.Reply.{Reply}
use Rattle.task_requests.specs.declared.request.Request.TheVariants as request
use Rattle.task_board.specs.Refusals.{own_refusals}
use Rattle.task_board.specs.BoardValue.{BoardValue}
use Rattle.task_board.specs.Step.{Answers}
use Rattle.task_board.specs.Inside.Changes.{change_reply, change_ask}
use Rattle.task_board.specs.Inside.Plans.{CallPrepared}
use Rattle.task_board.specs.Inside.Shown.{board_state_of}
use Rattle.task_board.proofs.EntryLemmas.{none_is_not}
use Rattle.task_board.proofs.StepLemmas.{task_named}
use Rattle.task_board.proofs.EffectLemmas.{change_allowed, answers_sound}
use Rattle.task_board.proofs.BoardLemmas.{with_write, call_there, call_at, call_accepted, changed_there}
use Rattle.task_board.proofs.board.Board.change.Goals as goal

pub unreachable-requires : goal.unreachable-requires
unreachable-requires c =
    let P :
    BoardValue → Type 0 = λ v. CallPrepared v.state (own_refusals (change_ask c.args.change)) c.args.slot c.args.id in
    let p = subst P (sym c.self.view_is) c.requires in
    let at =
    call_there c.self.inside (own_refusals (change_ask c.args.change)) c.args.slot c.args.id
    c.self.invariant.sound p in
    let none : get c.self.inside.tasks c.args.slot ≡ None = search rules in
    none_is_not p.task (sym none ∙ at)

pub change-requires-clause-named : goal.change-requires-clause-named
change-requires-clause-named c =
    let P :
    BoardValue → Type 0 = λ v. CallPrepared v.state (own_refusals (change_ask c.args.change)) c.args.slot c.args.id in
    let p = subst P (sym c.self.view_is) c.requires in
    let here : get c.self.inside.tasks c.args.slot ≡ Some c.in-Some.task.now = search rules in
    let at =
    call_at c.self.inside (own_refusals (change_ask c.args.change)) c.args.slot c.args.id c.in-Some.task.now
    c.self.invariant.sound p here in
    sym (task_named c.args.id (board_state_of c.self.inside).tasks c.in-Some.task.now at)

pub change-requires-clause-allowed : goal.change-requires-clause-allowed
change-requires-clause-allowed c =
    let P :
    BoardValue → Type 0 = λ v. CallPrepared v.state (own_refusals (change_ask c.args.change)) c.args.slot c.args.id in
    let p = subst P (sym c.self.view_is) c.requires in
    let here : get c.self.inside.tasks c.args.slot ≡ Some c.in-Some.task.now = search rules in
    change_allowed c.args.change c.args.id c.in-Some.task.now
    (call_accepted c.self.inside (own_refusals (change_ask c.args.change)) c.args.slot c.args.id c.in-Some.task.now
    c.self.invariant.sound p here)

pub invariant_of-self : goal.invariant_of-self
invariant_of-self c =
    let P :
    BoardValue → Type 0 = λ v. CallPrepared v.state (own_refusals (change_ask c.args.change)) c.args.slot c.args.id in
    let p = subst P (sym c.self.view_is) c.requires in
    let here : get c.self.inside.tasks c.args.slot ≡ Some c.in-Some.task.now = search rules in
    let done =
    changed_there c.self.inside c.args.change c.args.slot c.args.id c.in-Some.task.now c.change.new.self
    c.self.invariant.sound c.self.invariant.waiting p here c.change.ensures.task in
    record {
      opened = c.self.invariant.opened;
      tasks_room = c.self.invariant.tasks_room;
      waiting = done.waiting;
      sound =
          answers_sound (board_state_of c.self.inside) (request.Task c.args.id (change_ask c.args.change))
          (Ok (change_reply c.args.change c.args.id c.change.new.self))
          (board_state_of (with_write c.self.inside c.args.slot c.change.new.self))
          c.self.invariant.sound done.answers;
    }

pub returns-clause-answers : goal.returns-clause-answers
returns-clause-answers c =
    let P :
    BoardValue → Type 0 = λ v. CallPrepared v.state (own_refusals (change_ask c.args.change)) c.args.slot c.args.id in
    let p = subst P (sym c.self.view_is) c.requires in
    let here : get c.self.inside.tasks c.args.slot ≡ Some c.in-Some.task.now = search rules in
    let done =
    changed_there c.self.inside c.args.change c.args.slot c.args.id c.in-Some.task.now c.change.new.self
    c.self.invariant.sound c.self.invariant.waiting p here c.change.ensures.task in
    let s' = board_state_of (with_write c.self.inside c.args.slot c.change.new.self) in
    let Q : BoardValue → Type 0 =
    λ v. Answers v.state (request.Task c.args.id (change_ask c.args.change))
    (Ok (change_reply c.args.change c.args.id c.change.new.self)) s' in
    let T : Reply → Type 0 =
    λ x. Answers c.args.self.now.state (request.Task c.args.id (change_ask c.args.change)) (Ok x) s' in
    subst T (sym c.change.ensures.reply) (subst Q c.self.view_is done.answers)

pub returns-clause-ticket : goal.returns-clause-ticket
returns-clause-ticket c =
    let P :
    BoardValue → Type 0 = λ v. CallPrepared v.state (own_refusals (change_ask c.args.change)) c.args.slot c.args.id in
    let p = subst P (sym c.self.view_is) c.requires in
    let here : get c.self.inside.tasks c.args.slot ≡ Some c.in-Some.task.now = search rules in
    (changed_there c.self.inside c.args.change c.args.slot c.args.id c.in-Some.task.now c.change.new.self
    c.self.invariant.sound c.self.invariant.waiting p here c.change.ensures.task).ticket

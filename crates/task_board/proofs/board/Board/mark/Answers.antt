use Rattle.std.proofs.Common.{◌≡◌, ◌∙◌, Some, None, Ok, sym, subst, rules}
use Rattle.slab.specs.Slab.{get}
use Rattle.task_requests.specs.declared.request.Reply.{Reply}
use Rattle.task_requests.specs.declared.request.Request.TheVariants as request
use Rattle.task_board.specs.Refusals.{own_refusals}
use Rattle.task_board.specs.BoardValue.{BoardValue}
use Rattle.task_board.specs.Step.{Answers}
use Rattle.task_board.specs.Inside.Marks.{mark_reply, mark_ask}
use Rattle.task_board.specs.Inside.Plans.{MarkPrepared}
use Rattle.task_board.specs.Inside.Shown.{board_state_of}
use Rattle.task_board.proofs.EntryLemmas.{none_is_not}
use Rattle.task_board.proofs.BoardLemmas.{with_write, call_there, mark_may, marked_there}
use Rattle.task_board.proofs.board.Board.mark.Goals as goal

pub unreachable-requires : goal.unreachable-requires
unreachable-requires c =
    let P : BoardValue → Type 0 = λ v. MarkPrepared v.state c.args.mark c.args.slot c.args.id c.args.breaks in
    let p = subst P (sym c.self.view_is) c.requires in
    let at =
    call_there c.self.inside (own_refusals (mark_ask c.args.mark)) c.args.slot c.args.id c.self.invariant.sound p.call
    in
    let none : get c.self.inside.tasks c.args.slot ≡ None = search rules in
    none_is_not p.call.task (sym none ∙ at)

pub set_breaks-requires-clause-idle : goal.set_breaks-requires-clause-idle
set_breaks-requires-clause-idle c =
    let P : BoardValue → Type 0 = λ v. MarkPrepared v.state c.args.mark c.args.slot c.args.id c.args.breaks in
    let p = subst P (sym c.self.view_is) c.requires in
    let here : get c.self.inside.tasks c.args.slot ≡ Some c.in-Some.task.now = search rules in
    mark_may c.self.inside c.args.mark c.args.slot c.args.id c.args.breaks c.in-Some.task.now
    c.self.invariant.sound p here

pub invariant_of-self : goal.invariant_of-self
invariant_of-self c =
    let P : BoardValue → Type 0 = λ v. MarkPrepared v.state c.args.mark c.args.slot c.args.id c.args.breaks in
    let p = subst P (sym c.self.view_is) c.requires in
    let here : get c.self.inside.tasks c.args.slot ≡ Some c.in-Some.task.now = search rules in
    let done =
    marked_there c.self.inside c.args.mark c.args.slot c.args.id c.args.breaks c.in-Some.task.now
    c.set_breaks.new.self c.self.invariant.sound c.self.invariant.waiting p here c.set_breaks.ensures in
    record {
      opened = c.self.invariant.opened;
      tasks_room = c.self.invariant.tasks_room;
      waiting = done.waiting;
      sound = done.sound;
    }

pub returns-clause-answers : goal.returns-clause-answers
returns-clause-answers c =
    let P : BoardValue → Type 0 = λ v. MarkPrepared v.state c.args.mark c.args.slot c.args.id c.args.breaks in
    let p = subst P (sym c.self.view_is) c.requires in
    let here : get c.self.inside.tasks c.args.slot ≡ Some c.in-Some.task.now = search rules in
    let done =
    marked_there c.self.inside c.args.mark c.args.slot c.args.id c.args.breaks c.in-Some.task.now
    c.set_breaks.new.self c.self.invariant.sound c.self.invariant.waiting p here c.set_breaks.ensures in
    let s' = board_state_of (with_write c.self.inside c.args.slot c.set_breaks.new.self) in
    let Q : BoardValue → Type 0 =
    λ v. Answers v.state (request.Task c.args.id (mark_ask c.args.mark)) (Ok (mark_reply c.args.mark c.args.id)) s' in
    let R :
    Reply → Type 0 = λ x. Answers c.args.self.now.state (request.Task c.args.id (mark_ask c.args.mark)) (Ok x) s' in
    subst R (sym c.reply.ensures) (subst Q c.self.view_is done.answers)

use Rattle.std.proofs.Common.{List, ◌≡◌, ◌∙◌, Some, None, Ok, sym, ap, subst, ℕ, ◌≤◌, rules}
use Rattle.slab.specs.Slab.{get, entries}
use Rattle.wasm_ast.specs.declared.refusal.Refusal.TheVariants as refusal
use Rattle.task_lifecycle.specs.declared.lifecycle.TaskCall.TheVariants as call
use Rattle.task_board.specs.declared.ticket.Ticket.{Ticket}
use Rattle.task_board.specs.Waiting.{AreWaiting}
use Rattle.task_board.proofs.WaitingLemmas.{filtered}
use Rattle.task_requests.specs.declared.request.Request.TheVariants as request
use Rattle.task_requests.specs.declared.request.Ask.TheVariants as ask
use Rattle.task_requests.specs.declared.request.Reply.TheVariants as reply
use Rattle.task_requests.specs.declared.request.TaskState.{TaskState}
use Rattle.task_board.specs.BoardState.{Task}
use Rattle.task_board.specs.BoardValue.{BoardValue}
use Rattle.task_board.specs.Refusals.{unless_allowed}
use Rattle.task_board.specs.Step.{Answers}
use Rattle.task_board.specs.Tasks.{state_of}
use Rattle.task_board.specs.Inside.Plans.{CallPrepared}
use Rattle.task_board.specs.Inside.Shown.{board_state_of}
use Rattle.task_board.proofs.EntryLemmas.{none_is_not, some_is, named}
use Rattle.task_board.proofs.EffectLemmas.{answers_sound}
use Rattle.task_board.proofs.BoardLemmas.{with_slab, call_there, removed_there}
use Rattle.task_board.proofs.board.Board.delete.Goals as goal

pub unreachable-requires : goal.unreachable-requires
unreachable-requires c =
    let P : BoardValue → Type 0 =
    λ v. CallPrepared v.state (unless_allowed call.Delete refusal.WrongStatus) c.args.slot c.args.id in
    let p = subst P (sym c.self.view_is) c.requires in
    let at =
    call_there c.self.inside (unless_allowed call.Delete refusal.WrongStatus) c.args.slot c.args.id
    c.self.invariant.sound p in
    let none : get c.self.inside.tasks c.args.slot ≡ None = search rules in
    none_is_not p.task (sym none ∙ at)

pub state-requires : goal.state-requires
state-requires c =
    let P : BoardValue → Type 0 =
    λ v. CallPrepared v.state (unless_allowed call.Delete refusal.WrongStatus) c.args.slot c.args.id in
    let p = subst P (sym c.self.view_is) c.requires in
    let at =
    call_there c.self.inside (unless_allowed call.Delete refusal.WrongStatus) c.args.slot c.args.id
    c.self.invariant.sound p in
    let here : get c.self.inside.tasks c.args.slot ≡ Some c.in-Some.task = search rules in
    let same = some_is p.task c.in-Some.task (sym at ∙ here) in
    sym (named c.args.id (board_state_of c.self.inside).tasks (c.args.slot, p.task) p.found)
    ∙ ap (λ (u : Task). u.id) same

pub invariant_of-self : goal.invariant_of-self
invariant_of-self c =
    let P : BoardValue → Type 0 =
    λ v. CallPrepared v.state (unless_allowed call.Delete refusal.WrongStatus) c.args.slot c.args.id in
    let p = subst P (sym c.self.view_is) c.requires in
    let here : get c.self.inside.tasks c.args.slot ≡ Some c.in-Some.task = search rules in
    let new = c.try_remove.new.self in
    let e = c.in-Some.ensures in
    let done =
    removed_there c.self.inside c.args.slot c.args.id new c.keep_present.new.self c.in-Some.task
    c.self.invariant.sound p here e.slots in
    record {
      waiting =
          subst (λ (ws : List Ticket). AreWaiting (entries new) ws) (sym c.keep_present.ensures)
          (filtered (entries new) c.self.inside.waiting c.self.invariant.waiting.once);
      opened = c.drop_idle.ensures.sound c.self.invariant.opened;
      tasks_room = subst (λ (n : ℕ). 64 ≤ n) (sym e.capacity) c.self.invariant.tasks_room;
      sound =
          answers_sound (board_state_of c.self.inside) (request.Task c.args.id ask.Delete)
          (Ok (reply.Delete (state_of c.in-Some.task)))
          (board_state_of (with_slab c.self.inside new c.keep_present.new.self))
          c.self.invariant.sound done;
    }

pub returns-clause-answers : goal.returns-clause-answers
returns-clause-answers c =
    let P : BoardValue → Type 0 =
    λ v. CallPrepared v.state (unless_allowed call.Delete refusal.WrongStatus) c.args.slot c.args.id in
    let p = subst P (sym c.self.view_is) c.requires in
    let here : get c.self.inside.tasks c.args.slot ≡ Some c.in-Some.task = search rules in
    let new = c.try_remove.new.self in
    let e = c.in-Some.ensures in
    let done =
    removed_there c.self.inside c.args.slot c.args.id new c.keep_present.new.self c.in-Some.task
    c.self.invariant.sound p here e.slots in
    let s' = board_state_of (with_slab c.self.inside new c.keep_present.new.self) in
    let Q : BoardValue → Type 0 =
    λ v. Answers v.state (request.Task c.args.id ask.Delete) (Ok (reply.Delete (state_of c.in-Some.task))) s' in
    let R : TaskState → Type 0 =
    λ x. Answers c.args.self.now.state (request.Task c.args.id ask.Delete) (Ok (reply.Delete x)) s' in
    subst R (sym c.state.ensures) (subst Q c.self.view_is done)

use Rattle.std.proofs.Common.{Ok, subst, ℕ, sym, ◌≤◌}
use Rattle.task_requests.specs.declared.request.Reply.TheVariants as reply
use Rattle.task_lifecycle.specs.declared.status.Status.TheVariants.{Created}
use Rattle.task_board.specs.BoardValue.{BoardValue}
use Rattle.task_board.specs.Step.{Answers}
use Rattle.task_board.specs.Inside.Plans.{CreatePrepared}
use Rattle.task_board.specs.Inside.Shown.{board_state_of}
use Rattle.task_board.proofs.EffectLemmas.{answers_sound}
use Rattle.task_board.proofs.BoardLemmas.{with_insert, room_for_task, inserted_answers, inserted_waits}
use Rattle.task_board.proofs.board.Board.add_task.Goals as goal

pub insert_reserved-requires : goal.insert_reserved-requires
insert_reserved-requires c =
    let P : BoardValue → Type 0 = λ v. CreatePrepared v.state c.requires.0 c.args.task c.args.id in
    room_for_task c.self.inside c.requires.0 c.args.task c.args.id c.self.invariant.tasks_room
    (subst P (sym c.self.view_is) c.requires.1)

pub invariant_of-self : goal.invariant_of-self
invariant_of-self c =
    let P : BoardValue → Type 0 = λ v. CreatePrepared v.state c.requires.0 c.args.task c.args.id in
    let p = subst P (sym c.self.view_is) c.requires.1 in
    let new = c.insert_reserved.new.self in
    let e = c.insert_reserved.ensures in
    let answers =
    inserted_answers c.self.inside new c.insert_reserved.result c.args.task c.requires.0 c.args.id
    e.was_vacant e.updates p in
    record {
      waiting =
          inserted_waits c.self.inside new c.insert_reserved.result c.args.task c.self.invariant.waiting
          e.was_vacant e.updates;
      opened = c.self.invariant.opened;
      tasks_room = subst (λ (n : ℕ). 64 ≤ n) (sym e.capacity) c.self.invariant.tasks_room;
      sound =
          answers_sound (board_state_of c.self.inside) c.requires.0 (Ok (reply.Create c.args.id Created))
          (board_state_of (with_insert c.self.inside new)) c.self.invariant.sound answers;
    }

pub returns-clause-answers : goal.returns-clause-answers
returns-clause-answers c r given =
    let P : BoardValue → Type 0 = λ v. CreatePrepared v.state r c.args.task c.args.id in
    let p = subst P (sym c.self.view_is) given in
    let new = c.insert_reserved.new.self in
    let e = c.insert_reserved.ensures in
    let answers =
    inserted_answers c.self.inside new c.insert_reserved.result c.args.task r c.args.id e.was_vacant e.updates p in
    let Q : BoardValue → Type 0 =
    λ v. Answers v.state r (Ok (reply.Create c.args.id Created)) (board_state_of (with_insert c.self.inside new)) in
    subst Q c.self.view_is answers

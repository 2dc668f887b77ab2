use Rattle.std.proofs.Common.{Ok, sym, subst}
use Rattle.content_leases.specs.StoreState.{StoreState}
use Rattle.task_requests.specs.declared.request.Reply.{Reply}
use Rattle.task_board.specs.BoardState.{with_store}
use Rattle.task_board.specs.BoardValue.{BoardValue}
use Rattle.task_board.specs.Step.{Answers}
use Rattle.task_board.specs.Inside.StoreChanges.{store_request, store_reply, StorePrepared}
use Rattle.task_board.specs.Inside.Shown.{board_state_of, board_of}
use Rattle.task_board.proofs.EffectLemmas.{answers_sound}
use Rattle.task_board.proofs.StoreChangeLemmas.{store_answers, made_answers, can_take}
use Rattle.task_board.proofs.board.Board.change_store.Goals as goal

pub make_and_drop-requires-clause-can : goal.make_and_drop-requires-clause-can
make_and_drop-requires-clause-can c =
    let P : BoardValue → Type 0 = λ v. StorePrepared v.state v.room c.args.change in
    can_take c.self.inside c.args.change (subst P (sym c.self.view_is) c.requires)

pub invariant_of-self : goal.invariant_of-self
invariant_of-self c =
    let b = c.self.inside in
    let P : BoardValue → Type 0 = λ v. StorePrepared v.state v.room c.args.change in
    let s = board_state_of b in
    let done = store_answers s (board_of b).room c.args.change (subst P (sym c.self.view_is) c.requires) in
    let after =
    subst
    (λ (x : StoreState). Answers s (store_request c.args.change) (Ok (store_reply c.args.change))
    (with_store s x)) (sym c.make_and_drop.ensures.leaves) done in
    record {
      opened = c.make_and_drop.ensures.opened;
      tasks_room = c.self.invariant.tasks_room;
      waiting = c.self.invariant.waiting;
      sound =
          answers_sound s (store_request c.args.change) (Ok (store_reply c.args.change))
          (with_store s c.make_and_drop.new.store.state) c.self.invariant.sound after;
    }

pub returns-clause-answers : goal.returns-clause-answers
returns-clause-answers c r made =
    let b = c.self.inside in
    let P : BoardValue → Type 0 = λ v. StorePrepared v.state v.room c.args.change in
    let s = board_state_of b in
    let done = store_answers s (board_of b).room c.args.change (subst P (sym c.self.view_is) c.requires) in
    let after =
    subst
    (λ (x : StoreState). Answers s (store_request c.args.change) (Ok (store_reply c.args.change))
    (with_store s x)) (sym c.make_and_drop.ensures.leaves) done in
    let Q : BoardValue → Type 0 =
    λ v. Answers v.state (store_request c.args.change) (Ok (store_reply c.args.change))
    (with_store s c.make_and_drop.new.store.state) in
    let R : Reply → Type 0 =
    λ x. Answers c.args.self.now.state (store_request c.args.change) (Ok x)
    (with_store s c.make_and_drop.new.store.state) in
    let own = subst R (sym c.make_and_drop.ensures.reply) (subst Q c.self.view_is after) in
    made_answers c.args.self.now.state r c.args.change (Ok c.make_and_drop.result)
    (with_store s c.make_and_drop.new.store.state) made own

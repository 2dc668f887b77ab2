-- The parts of what a reply says of its task.
use Rattle.std.proofs.Common.{◌≡◌, ◌≢◌, ℕ, List, true, Some, None, is_some, refl, ◌∙◌, sym}
use Rattle.step_machine.specs.Instantiation.{after, ended}
use Rattle.task_lifecycle.specs.declared.status.Status.{Status}
use Rattle.task_lifecycle.specs.declared.status.Status.TheVariants.{Created, Stopped}
use Rattle.task_lifecycle.specs.declared.status.ExitRecord.{ExitRecord}
use Rattle.task_lifecycle.specs.Lifecycle.{is_going}
use Rattle.content_leases.specs.StoreState.{StoreState}
use Rattle.task_requests.specs.declared.request.Request.{Request}
use Rattle.task_requests.specs.declared.request.Request.TheVariants as request
use Rattle.task_requests.specs.declared.request.Ask.TheVariants as ask
use Rattle.task_requests.specs.declared.request.Reply.{Reply}
use Rattle.task_requests.specs.declared.request.TaskState.{TaskState}
use Rattle.task_board.specs.BoardState.{Task, BoardState}
use Rattle.task_board.specs.Claims.{told_on, id_told, turns_told, status_told, end_told, state_told, SaysTruly}
use Rattle.task_board.specs.Tasks.{IsTrueOf}
use Rattle.task_board.proofs.EntryLemmas.{some_is}

pub told_left : (q : Request) (found left : BoardState) → ((id : List ℕ) → q ≢ request.Task id ask.Delete)
    → told_on q found left ≡ left
told_left (request.Task id ask.Delete) found left other = absurd (other id refl)
told_left (request.Task id _) found left other = refl
told_left _ found left other = refl

module _ (store : StoreState) (t : Task) (q : Request) (a : Reply) (says : SaysTruly store t q a) where
  pub name_part : (name : List ℕ) → id_told a ≡ Some name → name ≡ t.id
  name_part name told = some_is name t.id (sym told ∙ says.id)

  pub status_part : (name : List ℕ) (status : Status) → id_told a ≡ Some name → status_told a ≡ Some status
      → (name ≡ t.id) × (status ≡ t.status) × (status ≡ Created → t.turns ≡ 0)
      × (is_going status ≡ true → ended (after t.module t.process t.turns).state ≡ None)
  status_part name status named told =
      let s = says.status status told in
      (name_part name named, s.own, s.created, s.going)

  pub state_part : (x : TaskState) → id_told a ≡ Some x.id → turns_told a ≡ Some x.n → status_told a ≡ Some x.status
      → end_told a ≡ x.end → state_told a ≡ Some x → (x.id ≡ t.id) × (x.n ≡ t.turns) × (x.status ≡ t.status)
      × ((e : ExitRecord) → x.end ≡ Some e → IsTrueOf e t.turns (ended (after t.module t.process t.turns).state))
      × (x.status ≡ Stopped → is_some x.end ≡ true) × (is_some x.end ≡ true → x.status ≡ Stopped)
  state_part x named counted standing ending stated =
      let s = says.stopped x stated in (
        name_part x.id named,
        says.turns x.n counted,
        (says.status x.status standing).own,
        (λ e is. says.end e (ending ∙ is)),
        s.0,
        s.1,
      )

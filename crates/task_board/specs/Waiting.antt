-- The tasks that wait for a worker, as tickets, the oldest first.
use Rattle.std.specs.Prelude.{◌≡◌, ℕ, ◌++◌, ◌&&◌, not, nat_eq, List, [], ◌∷◌, filter, Bool, true, false, if◌then◌else◌, Option, Some, None, option_and_then, Ok, Err}
use Rattle.std.specs.List.{list_any}
use Rattle.task_requests.specs.declared.request.Request.{Request}
use Rattle.task_requests.specs.declared.request.Request.TheVariants as request
use Rattle.task_requests.specs.declared.request.Ask.TheVariants as ask
use Rattle.task_board.specs.declared.ticket.Ticket.{Ticket}
use Rattle.task_board.specs.BoardState.{Task, Entries, task_in, entry_of}
use Rattle.task_board.specs.Sound.{Each, AreDistinct}
use Rattle.task_board.specs.Step.{Answer}
use Rattle.task_board.specs.Tickets.{ticket_if_running, ticket_of}

abbrev pub is_ticket : (a b : Ticket) → Bool
is_ticket a b = nat_eq a.slot b.slot && nat_eq a.incarnation b.incarnation

abbrev pub is_waiting : Ticket → List Ticket → Bool
is_waiting ticket ws = list_any (λ (w : Ticket). is_ticket w ticket) ws

abbrev pub has_incarnation : ℕ → Option Task → Bool
has_incarnation n None = false
has_incarnation n (Some t) = nat_eq t.incarnation n

-- the ticket's task is there
abbrev pub is_present : Entries → Ticket → Bool
is_present ts ticket = has_incarnation ticket.incarnation (task_in ticket.slot ts)

-- a task enters after all others, unless it waits already
abbrev pub enter : Ticket → List Ticket → List Ticket
enter ticket ws = if is_waiting ticket ws then ws else ws ++ ticket ∷ []

abbrev pub enter_if : Option Ticket → List Ticket → List Ticket
enter_if None ws = ws
enter_if (Some ticket) ws = enter ticket ws

-- a ticket of no present task is dropped
abbrev pub enter_again : Entries → Ticket → List Ticket → List Ticket
enter_again ts ticket ws = if is_present ts ticket then enter ticket ws else ws

-- a ticket of the task with an id, if that is running
abbrev pub running_ticket : (id : List ℕ) → Entries → Option Ticket
running_ticket id ts =
    option_and_then (λ (e : ℕ × Task). ticket_if_running e.0 e.1) (entry_of id ts)

-- the ticket of the task with an id, if that waits
abbrev pub waiting_ticket : (id : List ℕ) → Entries → List Ticket → Option Ticket
waiting_ticket id ts ws =
    option_and_then (λ (t : Ticket). if is_waiting t ws then Some t else None) (ticket_of id ts)

-- all of them but a ticket
abbrev pub without : Ticket → List Ticket → List Ticket
without ticket ws = filter (λ (w : Ticket). not (is_ticket w ticket)) ws

-- those that wait after a request that was accepted and left these tasks: start and resume enter a
-- task that is running then, and a deleted task leaves
abbrev pub waiting_after_call : Request → Entries → List Ticket → List Ticket
waiting_after_call (request.Task id ask.Start) ts ws = enter_if (running_ticket id ts) ws
waiting_after_call (request.Task id ask.Resume) ts ws = enter_if (running_ticket id ts) ws
waiting_after_call (request.Task id ask.Delete) ts ws = filter (is_present ts) ws
waiting_after_call other ts ws = ws

-- those that wait after a request that left these tasks
abbrev pub waiting_after : Request → Answer → Entries → List Ticket → List Ticket
waiting_after r (Err e) ts ws = ws
waiting_after r (Ok reply) ts ws = waiting_after_call r ts ws

-- each of them waits once, and its task is there
pub record AreWaiting (ts : Entries) (ws : List Ticket) : Type 0 where
  pub once : AreDistinct ws
  pub present : Each (λ (w : Ticket). is_present ts w ≡ true) ws

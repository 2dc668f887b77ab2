-- Tickets, and the slices that are taken by them.
use Rattle.std.specs.Prelude.{◌≡◌, ℕ, List, true, if◌then◌else◌, Option, Some, None, option_map, option_and_then}
use Rattle.task_board.specs.declared.ticket.Ticket.{Ticket}
use Rattle.task_board.specs.BoardState.{Task, Entries, BoardState, task_in, entry_of, with_task}
use Rattle.task_lifecycle.specs.Lifecycle.{is_running}
use Rattle.task_board.specs.Tasks.{can_lend, lent}
use Rattle.task_board.specs.Loans.{Lent, loan_of}

abbrev pub ticket_to : ℕ × Task → Ticket
ticket_to e = record { slot = e.0; incarnation = e.1.incarnation }

-- a ticket of the task with an id, if there is one
abbrev pub ticket_of : List ℕ → Entries → Option Ticket
ticket_of id es = option_map ticket_to (entry_of id es)

-- the ticket's task is there, running and idle
pub record CanLend (ticket : Ticket) (ts : Entries) (t : Task) : Type 0 where
  pub there : task_in ticket.slot ts ≡ Some t
  pub of : t.incarnation ≡ ticket.incarnation
  pub ready : can_lend t ≡ true

-- the ticket's task is lent with this loan
pub record Lends (s : BoardState) (ticket : Ticket) (budget : ℕ) (l : Lent) (s' : BoardState) :
    Type 0 where
  pub task : Task
  pub can : CanLend ticket s.tasks task
  pub loan : l ≡ loan_of ticket.slot budget task
  pub leaves : s' ≡ with_task s (lent task budget)

-- a ticket of the task in a slot, if that is running
abbrev pub ticket_if_running : ℕ → Task → Option Ticket
ticket_if_running slot t = if is_running t.status then Some (ticket_to (slot, t)) else None

abbrev pub ticket_in : ℕ → Entries → Option Ticket
ticket_in slot ts = option_and_then (ticket_if_running slot) (task_in slot ts)

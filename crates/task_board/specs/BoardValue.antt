-- What contracts see of a board.
use Rattle.std.specs.Prelude.{ℕ, List}
use Rattle.task_board.specs.declared.ticket.Ticket.{Ticket}
use Rattle.task_board.specs.BoardState.{BoardState}

-- how many more contents and leases fit with no memory taken
pub record Room : Type 0 where
  pub contents : ℕ
  pub leases : ℕ

-- What contracts see of a board: the abstract board, the tasks that wait for a worker (the oldest first),
-- and the room.
pub record BoardValue : Type 0 where
  pub state : BoardState
  pub waiting : List Ticket
  pub room : Room

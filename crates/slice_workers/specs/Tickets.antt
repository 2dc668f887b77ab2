-- The rule of the queue of tickets.
use Rattle.std.specs.Prelude.{◌≡◌, ◌+◌, ℕ, List, [], ◌∷◌, ◌++◌, map, slice_set}
use Rattle.std.specs.List.{AllByRecursion}
use mathlib.Core.Option.{some}
use lib.ListN.{get_elem?}
use Rattle.task_board.specs.declared.ticket.Ticket.{Ticket}
use Rattle.slice_workers.specs.declared.tickets.Hand.{Hand}

-- how many tickets a queue has room for
abbrev pub max_tickets : ℕ
max_tickets = 64

-- what a pass has put and taken
abbrev pub hand : (put taken : List Ticket) → Hand
hand put taken = record { put = put; taken = taken }

abbrev pub AreEmpty : List (List Ticket) → Type 0
AreEmpty = AllByRecursion (λ xs. xs ≡ [])

-- the list is a merge of the others, each in its order
abbrev pub IsMergeOf : List (List Ticket) → List Ticket → Type 0
IsMergeOf xss [] = AreEmpty xss
IsMergeOf xss (x ∷ xs) = (k : ℕ) × (rest : List Ticket) × (get_elem? xss k ≡ some (x ∷ rest))
    × IsMergeOf (slice_set xss k rest) xs

-- some merge of what the passes took, followed by what the queue holds, is a merge of what they put
abbrev pub Merged : (items : List Ticket) → (passes : List Hand) → Type 0
Merged items passes = (taken : List Ticket) × IsMergeOf (map (λ v. v.taken) passes) taken
    × IsMergeOf (map (λ v. v.put) passes) (taken ++ items)

-- ---- how often a ticket is there

-- the weights of tickets, added up
abbrev pub weigh : (weight : Ticket → ℕ) → List Ticket → ℕ
weigh weight [] = 0
weigh weight (x ∷ xs) = weight x + weigh weight xs

abbrev pub weigh_all : (weight : Ticket → ℕ) → List (List Ticket) → ℕ
weigh_all weight [] = 0
weigh_all weight (xs ∷ xss) = weigh weight xs + weigh_all weight xss

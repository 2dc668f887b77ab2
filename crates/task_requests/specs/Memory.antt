-- The requests for which a board takes memory.
use Rattle.std.specs.Prelude.{Bool, true, false}
use Rattle.task_requests.specs.declared.request.Ask.{Ask}
use Rattle.task_requests.specs.declared.request.Ask.TheVariants as ask
use Rattle.task_requests.specs.declared.request.Request.{Request}
use Rattle.task_requests.specs.declared.request.Request.TheVariants as request

-- what is asked of a task allocates
abbrev pub asks_for_memory : Ask → Bool
asks_for_memory (ask.Output stream) = true
asks_for_memory (ask.Break func place) = true
asks_for_memory (ask.Unbreak func place) = true
asks_for_memory ask.Inspect = true
asks_for_memory (ask.Peek address length) = true
asks_for_memory other = false

-- the request allocates, and so may be answered NoMemory
abbrev pub takes_memory : Request → Bool
takes_memory (request.Put bytes) = true
takes_memory (request.PutText text) = true
takes_memory (request.LeaseCreate id) = true
takes_memory (request.LeaseAdd digest id) = true
takes_memory request.Gc = true
takes_memory (request.Create config id) = true
takes_memory (request.Task id a) = asks_for_memory a
takes_memory other = false

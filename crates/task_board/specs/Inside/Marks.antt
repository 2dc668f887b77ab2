-- The requests that set and remove breakpoints, in one.
use Rattle.std.specs.Prelude.{ℕ, List, [], ◌∷◌, ◌++◌, filter}
use Rattle.wasm_ast.specs.declared.place.Place.{Place}
use Rattle.task_lifecycle.specs.declared.lifecycle.TaskCall.{TaskCall}
use Rattle.task_lifecycle.specs.declared.lifecycle.TaskCall.TheVariants as call
use Rattle.task_board.specs.declared.mark.Mark.{Mark}
use Rattle.task_board.specs.declared.mark.Mark.TheVariants as mark
use Rattle.task_requests.specs.declared.request.Ask.{Ask}
use Rattle.task_requests.specs.declared.request.Ask.TheVariants as ask
use Rattle.task_requests.specs.declared.request.Reply.{Reply}
use Rattle.task_requests.specs.declared.request.Reply.TheVariants as reply
use Rattle.task_board.specs.BoardState.{Task}
use Rattle.task_board.specs.Tasks.{is_other}

abbrev pub mark_call : Mark → TaskCall
mark_call (mark.Set p) = call.Break
mark_call (mark.Remove p) = call.Unbreak

-- what is asked with it
abbrev pub mark_ask : Mark → Ask
mark_ask (mark.Set p) = ask.Break p.func p.instr
mark_ask (mark.Remove p) = ask.Unbreak p.func p.instr

abbrev pub mark_reply : Mark → (id : List ℕ) → Reply
mark_reply (mark.Set p) id = reply.Break id
mark_reply (mark.Remove p) id = reply.Unbreak id

abbrev pub marked_places : Mark → List Place → List Place
marked_places (mark.Set p) bs = bs ++ p ∷ []
marked_places (mark.Remove p) bs = filter (is_other p) bs

abbrev pub marked : Mark → Task → Task
marked m t = record t { breaks = marked_places m t.breaks }

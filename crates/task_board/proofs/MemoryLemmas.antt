-- Which requests allocate.
use Rattle.std.proofs.Common.{◌≡◌, ℕ, List, Bool, true, false, ◌&&◌, inl, inr, ◌⊎◌, refl, ap, ◌∙◌}
use Rattle.task_requests.specs.declared.event.Event.TheVariants as event
use Rattle.task_requests.specs.declared.event.EventReply.{EventReply}
use Rattle.task_requests.specs.declared.event.EventReply.TheVariants as answer
use Rattle.task_requests.specs.declared.request.Ask.{Ask}
use Rattle.task_requests.specs.declared.request.Request.{Request}
use Rattle.task_requests.specs.declared.request.Request.TheVariants as request
use Rattle.task_requests.specs.declared.request.Ask.TheVariants as ask
use Rattle.task_requests.specs.Memory.{asks_for_memory, takes_memory}
use Rattle.task_board.specs.Run.{is_no_memory, met_no_memory}

abbrev Asks : Ask → Type 0
Asks a =
    ((stream : ℕ) × (a ≡ ask.Output stream)) ⊎ ((func : ℕ) × (place : ℕ) × (a ≡ ask.Break func place))
    ⊎ ((func : ℕ) × (place : ℕ) × (a ≡ ask.Unbreak func place)) ⊎ (a ≡ ask.Inspect)
    ⊎ ((address : ℕ) × (length : ℕ) × (a ≡ ask.Peek address length))

pub asking : (a : Ask) → asks_for_memory a ≡ true → Asks a
asking (ask.Output stream) h = inl (stream, refl)
asking (ask.Break func place) h = inr (inl (func, place, refl))
asking (ask.Unbreak func place) h = inr (inr (inl (func, place, refl)))
asking ask.Inspect h = inr (inr (inr (inl refl)))
asking (ask.Peek address length) h = inr (inr (inr (inr (address, length, refl))))
asking _ h = cc

pub asks_so : (a : Ask) → Asks a → asks_for_memory a ≡ true
asks_so a (inl x) = ap asks_for_memory x.1
asks_so a (inr (inl x)) = ap asks_for_memory x.2
asks_so a (inr (inr (inl x))) = ap asks_for_memory x.2
asks_so a (inr (inr (inr (inl x)))) = ap asks_for_memory x
asks_so a (inr (inr (inr (inr x)))) = ap asks_for_memory x.2

abbrev Takes : Request → Type 0
Takes r =
    ((bytes : List ℕ) × (r ≡ request.Put bytes)) ⊎ ((text : List ℕ) × (r ≡ request.PutText text))
    ⊎ ((id : List ℕ) × (r ≡ request.LeaseCreate id))
    ⊎ ((digest : List ℕ) × (id : List ℕ) × (r ≡ request.LeaseAdd digest id)) ⊎ (r ≡ request.Gc)
    ⊎ ((config : List ℕ) × (id : List ℕ) × (r ≡ request.Create config id))
    ⊎ ((id : List ℕ) × (a : Ask) × (r ≡ request.Task id a) × (asks_for_memory a ≡ true))

pub taking : (r : Request) → takes_memory r ≡ true → Takes r
taking (request.Put bytes) h = inl (bytes, refl)
taking (request.PutText text) h = inr (inl (text, refl))
taking (request.LeaseCreate id) h = inr (inr (inl (id, refl)))
taking (request.LeaseAdd digest id) h = inr (inr (inr (inl (digest, id, refl))))
taking request.Gc h = inr (inr (inr (inr (inl refl))))
taking (request.Create config id) h = inr (inr (inr (inr (inr (inl (config, id, refl))))))
taking (request.Task id a) h = inr (inr (inr (inr (inr (inr (id, a, refl, h))))))
taking _ h = cc

pub takes_so : (r : Request) → Takes r → takes_memory r ≡ true
takes_so r (inl x) = ap takes_memory x.1
takes_so r (inr (inl x)) = ap takes_memory x.1
takes_so r (inr (inr (inl x))) = ap takes_memory x.1
takes_so r (inr (inr (inr (inl x)))) = ap takes_memory x.2
takes_so r (inr (inr (inr (inr (inl x))))) = ap takes_memory x
takes_so r (inr (inr (inr (inr (inr (inl x)))))) = ap takes_memory x.2
takes_so r (inr (inr (inr (inr (inr (inr x)))))) = ap takes_memory x.2 ∙ x.3

both_first : (a b : Bool) → (a && b) ≡ true → a ≡ true
both_first true b h = refl
both_first false b h = h

pub met_takes : (r : Request) (reply : EventReply) → met_no_memory (event.Call r) reply ≡ true → takes_memory r ≡ true
met_takes r (answer.Called a) h = both_first (takes_memory r) (is_no_memory a) h
met_takes r _ h = cc

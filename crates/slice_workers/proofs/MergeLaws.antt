-- What the rule says of all tickets together, and of one pass.
use Rattle.std.proofs.Common.{◌≡◌, ℕ, zero, suc, ◌+◌, List, [], ◌∷◌, ◌++◌, set, map, sym, refl, ap, ◌∙◌, arith}
use mathlib.Core.Option.{some, some-injective, some-ne-none}
use lib.ListN.{get_elem?}
use Rattle.task_board.specs.declared.ticket.Ticket.{Ticket}
use Rattle.slice_workers.specs.declared.tickets.Hand.{Hand}
use Rattle.slice_workers.specs.Tickets.{AreEmpty, IsMergeOf, Merged, hand, weigh, weigh_all}

empty_weighs : (h : Ticket → ℕ) (xss : List (List Ticket)) → AreEmpty xss → weigh_all h xss ≡ 0
empty_weighs h [] e = refl
empty_weighs h (xs ∷ xss) e = let rest = empty_weighs h xss e.1 in rw (e.0, rest) refl

front_weighs : (h : Ticket → ℕ) (xss : List (List Ticket)) (k : ℕ) (y : Ticket) (ys : List Ticket)
    → get_elem? xss k ≡ some (y ∷ ys) → weigh_all h xss ≡ h y + weigh_all h (set xss k ys)
front_weighs h [] k y ys at = absurd (some-ne-none (y ∷ ys) (sym at))
front_weighs h (xs ∷ xss) zero y ys at =
    let here : xs ≡ y ∷ ys = some-injective xs (y ∷ ys) at in
    rw here (omega arith)
front_weighs h (xs ∷ xss) (suc k) y ys at = let rest = front_weighs h xss k y ys at in omega (arith, rest)

merge_weighs :
    (h : Ticket → ℕ) (xss : List (List Ticket)) (ys : List Ticket) → IsMergeOf xss ys → weigh_all h xss ≡ weigh h ys
merge_weighs h xss [] m = empty_weighs h xss m
merge_weighs h xss (y ∷ ys) m =
    front_weighs h xss m.0 y m.1 m.2 ∙ ap (λ n. h y + n) (merge_weighs h (set xss m.0 m.1) ys m.3)

weigh_append : (h : Ticket → ℕ) (xs ys : List Ticket) → weigh h (xs ++ ys) ≡ weigh h xs + weigh h ys
weigh_append h [] ys = omega arith
weigh_append h (x ∷ xs) ys = let rest = weigh_append h xs ys in omega (arith, rest)

pub none_lost : (items : List Ticket) (passes : List Hand) → Merged items passes → (h : Ticket → ℕ)
    → weigh_all h (map (λ v. v.taken) passes) + weigh h items ≡ weigh_all h (map (λ v. v.put) passes)
none_lost items passes m h =
    let taken = merge_weighs h (map (λ (v : Hand). v.taken) passes) m.0 m.1 in
    let put = merge_weighs h (map (λ (v : Hand). v.put) passes) (m.0 ++ items) m.2 in
    omega (arith, taken, put, weigh_append h m.0 items)

merge_of_one : (xs ys : List Ticket) → IsMergeOf (xs ∷ []) ys → ys ≡ xs
merge_of_one xs [] m = sym m.0
merge_of_one xs (y ∷ ys) (zero, rest, at, more) =
    ap (λ l. y ∷ l) (merge_of_one rest ys more) ∙ sym (some-injective xs (y ∷ rest) at)
merge_of_one xs (y ∷ ys) (suc k, rest, at, more) = absurd (some-ne-none (y ∷ rest) (sym at))

pub one_pass : (items put taken : List Ticket) → Merged items (hand put taken ∷ []) → taken ++ items ≡ put
one_pass items put taken m =
    ap (λ l. l ++ items) (sym (merge_of_one taken m.0 m.1)) ∙ merge_of_one put (m.0 ++ items) m.2

pub taken : (a b c : Ticket) → Merged (b ∷ []) (hand (a ∷ b ∷ []) (c ∷ []) ∷ hand (c ∷ []) (a ∷ []) ∷ [])
taken a b c = (
  a ∷ c ∷ [],
  (1, [], refl, (0, [], refl, (refl, (refl, tt)))),
  (0, b ∷ [], refl, (1, [], refl, (0, [], refl, (refl, (refl, tt))))),
)

pub twice : (a : Ticket) → Merged [] (hand (a ∷ []) (a ∷ []) ∷ hand [] (a ∷ []) ∷ []) → ⊥
twice a m =
    let weighed = none_lost [] (hand (a ∷ []) (a ∷ []) ∷ hand [] (a ∷ []) ∷ []) m (λ _. 1) in omega (arith, weighed)

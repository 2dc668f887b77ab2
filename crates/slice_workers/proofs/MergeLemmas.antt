-- Each move keeps the rule.
use Rattle.std.proofs.Common.{◌≡◌, ◌≢◌, ℕ, zero, suc, List, [], ◌∷◌, ◌++◌, set, map, sym, refl, ap, ◌∙◌, subst, ⊎_elim, append_assoc}
use mathlib.Core.Option.{some, some-injective, some-ne-none}
use lib.ListN.{get_elem?}
use Rattle.std.proofs.lemmas.Bool.{cases_eq}
use Rattle.crossbeam_queue.specs.Fifo.{Pushes, Pops, Forks}
use Rattle.crossbeam_queue.proofs.Lists.{set_else, set_again, at_longer, at_map}
use Rattle.task_board.specs.declared.ticket.Ticket.{Ticket}
use Rattle.slice_workers.specs.declared.tickets.Hand.{Hand}
use Rattle.slice_workers.specs.Tickets.{hand, AreEmpty, IsMergeOf, Merged}

module _ {A : Type 0} where
  set_there : (l : List A) (k : ℕ) (a b : A) → get_elem? l k ≡ some a → get_elem? (set l k b) k ≡ some b
  set_there [] k a b e = absurd (some-ne-none a (sym e))
  set_there (x ∷ xs) zero a b e = refl
  set_there (x ∷ xs) (suc k) a b e = set_there xs k a b e

  set_twice : (l : List A) (k : ℕ) (a b : A) → set (set l k a) k b ≡ set l k b
  set_twice [] k a b = refl
  set_twice (x ∷ xs) zero a b = refl
  set_twice (x ∷ xs) (suc k) a b = ap (λ l. x ∷ l) (set_twice xs k a b)

  set_swap : (l : List A) (j k : ℕ) (a b : A) → j ≢ k → set (set l k a) j b ≡ set (set l j b) k a
  set_swap [] j k a b n = refl
  set_swap (x ∷ xs) zero zero a b n = absurd (n refl)
  set_swap (x ∷ xs) zero (suc k) a b n = refl
  set_swap (x ∷ xs) (suc j) zero a b n = refl
  set_swap (x ∷ xs) (suc j) (suc k) a b n = ap (λ l. x ∷ l) (set_swap xs j k a b (λ e. n (ap suc e)))

  set_append : (l m : List A) (k : ℕ) (a b : A) → get_elem? l k ≡ some a → set (l ++ m) k b ≡ set l k b ++ m
  set_append [] m k a b e = absurd (some-ne-none a (sym e))
  set_append (x ∷ xs) m zero a b e = refl
  set_append (x ∷ xs) m (suc k) a b e = ap (λ l. x ∷ l) (set_append xs m k a b e)

  map_set : {B : Type 0} (f : A → B) (l : List A) (k : ℕ) (a : A) → map f (set l k a) ≡ set (map f l) k (f a)
  map_set f [] k a = refl
  map_set f (x ∷ xs) zero a = refl
  map_set f (x ∷ xs) (suc k) a = ap (λ l. f x ∷ l) (map_set f xs k a)

  map_snoc : {B : Type 0} (f : A → B) (l : List A) (a : A) → map f (l ++ a ∷ []) ≡ map f l ++ f a ∷ []
  map_snoc f [] a = refl
  map_snoc f (x ∷ xs) a = ap (λ l. f x ∷ l) (map_snoc f xs a)

empty_at : (xss : List (List Ticket)) (k : ℕ) (vs : List Ticket) → AreEmpty xss → get_elem? xss k ≡ some vs → vs ≡ []
empty_at [] k vs e at = absurd (some-ne-none vs (sym at))
empty_at (xs ∷ xss) zero vs e at = sym (some-injective xs vs at) ∙ e.0
empty_at (xs ∷ xss) (suc k) vs e at = empty_at xss k vs e.1 at

empty_set : (xss : List (List Ticket)) (k : ℕ) → AreEmpty xss → AreEmpty (set xss k [])
empty_set [] k e = tt
empty_set (xs ∷ xss) zero e = (refl, e.1)
empty_set (xs ∷ xss) (suc k) e = (e.0, empty_set xss k e.1)

empty_more : (xss : List (List Ticket)) → AreEmpty xss → AreEmpty (xss ++ [] ∷ [])
empty_more [] e = (refl, tt)
empty_more (xs ∷ xss) e = (e.0, empty_more xss e.1)

-- one item more, after one of the lists and after their merge
pub merge_snoc :
    (xss : List (List Ticket)) (ys : List Ticket) (k : ℕ) (vs : List Ticket) (x : Ticket) → get_elem? xss k ≡ some vs
    → IsMergeOf xss ys → IsMergeOf (set xss k (vs ++ x ∷ [])) (ys ++ x ∷ [])
merge_snoc xss [] k vs x at m =
    let none : vs ≡ [] = empty_at xss k vs m at in
    (k, [], set_there xss k vs (vs ++ x ∷ []) at ∙ ap (λ l. some (l ++ x ∷ [])) none, rw set_twice (empty_set xss k m))
merge_snoc xss (y ∷ ys) k vs x at m =
    ⊎_elim
    (λ (same : m.0 ≡ k).
    let here : vs ≡ y ∷ m.1 = some-injective vs (y ∷ m.1) (sym at ∙ (ap (get_elem? xss) (sym same) ∙ m.2)) in
    let first : get_elem? xss k ≡ some (y ∷ m.1) = ap (get_elem? xss) (sym same) ∙ m.2 in
    let later : IsMergeOf (set xss k m.1) ys = subst (λ j. IsMergeOf (set xss j m.1) ys) same m.3 in
    let more = merge_snoc (set xss k m.1) ys k m.1 x (set_there xss k vs m.1 at) later in (
      k,
      m.1 ++ x ∷ [],
      set_there xss k vs (vs ++ x ∷ []) at ∙ ap (λ l. some (l ++ x ∷ [])) here,
      subst (λ l. IsMergeOf l (ys ++ x ∷ []))
          (set_twice xss k m.1 (m.1 ++ x ∷ []) ∙ sym (set_twice xss k (vs ++ x ∷ []) (m.1 ++ x ∷ []))) more,
    ))
    (λ (other : m.0 ≢ k).
    let back : k ≢ m.0 = λ e. other (sym e) in
    let more = merge_snoc (set xss m.0 m.1) ys k vs x (set_else xss m.0 k m.1 back ∙ at) m.3 in (
      m.0,
      m.1,
      set_else xss k m.0 (vs ++ x ∷ []) other ∙ m.2,
      subst (λ l. IsMergeOf l (ys ++ x ∷ [])) (sym (set_swap xss m.0 k (vs ++ x ∷ []) m.1 other)) more,
    ))
    (cases_eq m.0 k)

-- one more list, which is empty
pub merge_more : (xss : List (List Ticket)) (ys : List Ticket) → IsMergeOf xss ys → IsMergeOf (xss ++ [] ∷ []) ys
merge_more xss [] m = empty_more xss m
merge_more xss (y ∷ ys) m = (
  m.0,
  m.1,
  at_longer xss ([] ∷ []) m.0 (y ∷ m.1) m.2,
  subst (λ l. IsMergeOf l ys) (sym (set_append xss ([] ∷ []) m.0 (y ∷ m.1) m.1 m.2))
      (merge_more (set xss m.0 m.1) ys m.3),
)

pub begins : Merged [] (hand [] [] ∷ [])
begins = ([], (refl, tt), (refl, tt))

pub puts : (n port : ℕ) (v : Hand) (x : Ticket) → Pushes Merged n port v x (λ w. w ≡ hand (v.put ++ x ∷ []) v.taken)
puts n port v x items views room m at =
    let w = hand (v.put ++ x ∷ []) v.taken in
    let more =
    merge_snoc (map (λ (u : Hand). u.put) views) (m.0 ++ items) port v.put x
    (at_map (λ (u : Hand). u.put) views port v at) m.2 in (
      w,
      (
        m.0,
        rw (
          map_set (λ (u : Hand). u.taken) views port w,
          set_again (map (λ (u : Hand). u.taken) views) port v.taken (at_map (λ (u : Hand). u.taken) views port v at),
        )
            m.1,
        rw (map_set (λ (u : Hand). u.put) views port w, ← append_assoc m.0 items (x ∷ [])) more,
      ),
      refl,
    )

pub takes : (port : ℕ) (v : Hand) → Pops Merged port v (λ x w. w ≡ hand v.put (v.taken ++ x ∷ []))
takes port v x items views m at =
    let w = hand v.put (v.taken ++ x ∷ []) in
    let more =
    merge_snoc (map (λ (u : Hand). u.taken) views) m.0 port v.taken x
    (at_map (λ (u : Hand). u.taken) views port v at) m.1 in (
      w,
      (
        m.0 ++ x ∷ [],
        rw (map_set (λ (u : Hand). u.taken) views port w) more,
        rw (
          map_set (λ (u : Hand). u.put) views port w,
          set_again (map (λ (u : Hand). u.put) views) port v.put (at_map (λ (u : Hand). u.put) views port v at),
          append_assoc m.0 (x ∷ []) items,
        ) m.2,
      ),
      refl,
    )

pub forks : (port : ℕ) (v : Hand) → Forks Merged port v v (hand [] [])
forks port v items views m at =
    let same = set_again views port v at in (
      m.0,
      rw (same, map_snoc (λ (u : Hand). u.taken) views (hand [] []))
          (merge_more (map (λ (u : Hand). u.taken) views) m.0 m.1),
      rw (same, map_snoc (λ (u : Hand). u.put) views (hand [] []))
          (merge_more (map (λ (u : Hand). u.put) views) (m.0 ++ items) m.2),
    )

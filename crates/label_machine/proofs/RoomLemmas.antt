-- How many values frames have: counted as they are kept, and as the configuration's frames have them.
use Rattle.std.proofs.Common.{◌≡◌, ℕ, ◌+◌, ◌<◌, ◌≤◌, MatchOption, Option, Some, None, List, [], ◌∷◌, map, reverse, length, refl, sym, ap, ◌∙◌, arith}
use Rattle.std.specs.List.{sum_by}
use Rattle.std.proofs.lemmas.List.{reverse-append, length-append}
use Rattle.std.proofs.lemmas.List.Sums.{sum_by-append, sum_by-cons}
use Rattle.wasm_ast.specs.declared.values.Value.{Value}
use Rattle.wasm_ast.specs.declared.instr.Instr.{Instr}
use Rattle.step_machine.specs.Inside.Levels.{below_all, values_of, all_values}
use Rattle.label_machine.specs.declared.label.Target.{Target}
use Rattle.label_machine.specs.declared.label.Target.TheVariants.{After, Again}
use Rattle.label_machine.specs.declared.label.Label.{Label}
use Rattle.label_machine.specs.declared.frame.Frame.{Frame}
use Rattle.label_machine.specs.Inside.View.{looped, opened, open_of, level_of}
use Rattle.label_machine.specs.Inside.Runs.{values_below, values_in}

looped_below : (n k : ℕ) (vs : List Value) (is : List Instr) → (looped n k vs is).below ≡ vs
looped_below n k vs [] = refl
looped_below n k vs (i ∷ is) = refl

opened_below : (n k : ℕ) (vs : List Value) (t : Target) → (opened n k vs t).below ≡ vs
opened_below n k vs (After a) = refl
opened_below n k vs (Again is) = looped_below n k vs is.now

pub below_is : (b : Label) → (open_of b).below ≡ b.below
below_is b = opened_below b.arity b.place b.below b.target

held : (bs : List Label) → length (below_all (map open_of bs)) ≡ sum_by values_below bs
held [] = refl
held (b ∷ bs) =
    let here = ap (length {A = Value}) (below_is b) in
    let deeper = held bs in
    let both = length-append (open_of b).below (below_all (map open_of bs)) in
    let sum = sum_by-cons values_below b bs in
    omega (arith, here, deeper, both, sum)

pub counted : (f : Frame) → values_of (level_of f) ≡ values_in f
counted f =
    let below = held f.labels in
    let both = length-append f.operands (below_all (map open_of f.labels)) in
    omega (arith, below, both)

pub all_counted : (fs : List Frame) → all_values (map level_of fs) ≡ sum_by values_in fs
all_counted [] = refl
all_counted (f ∷ fs) =
    let here = counted f in
    let deeper = all_counted fs in
    let sum = sum_by-cons values_in f fs in
    omega (arith, here, deeper, sum)

-- a sum over a list is that over the same list the other way round
module _ {X : Type 0} (f : X → ℕ) where
  pub sum_reverse : (xs : List X) → sum_by f (reverse xs) ≡ sum_by f xs
  sum_reverse [] = refl
  sum_reverse (x ∷ xs) =
      let deeper = sum_reverse xs in
      let parts = ap (sum_by f) (reverse-append (x ∷ []) xs) in
      let both = sum_by-append f (reverse xs) (x ∷ []) in
      let one = sum_by-cons f x [] in
      let cons = sum_by-cons f x xs in
      omega (arith, deeper, parts, both, one, cons)

  pub sum_of_reversed : (xs ys : List X) → reverse xs ≡ ys → sum_by f xs ≡ sum_by f ys
  sum_of_reversed xs ys h = sym (sum_reverse xs) ∙ ap (sum_by f) h

-- room that is asked for in two parts
pub in_parts :
    (o : Option ℕ) (room left before used all : ℕ) → left + before ≡ room → all ≡ before + used
    → MatchOption o (left < used) (λ l. l + used ≡ left) → MatchOption o (room < all) (λ l. l + all ≡ room)
in_parts None room left before used all h g m = omega (arith, h, g, m)
in_parts (Some l) room left before used all h g m = omega (arith, h, g, m)

pub first_part :
    (o : Option ℕ) (room used all : ℕ) → o ≡ None → room < used → used ≤ all
    → MatchOption o (room < all) (λ l. l + all ≡ room)
first_part None room used all e h g = omega (arith, h, g)
first_part (Some l) room used all e h g = cc

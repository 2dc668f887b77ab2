-- How the lines of several callers ended, and the replies to all of them.
use Rattle.std.specs.Prelude.{◌≡◌, ℕ, List, Option, filter_map, option_map, IsSomeAnd}
use Rattle.std.specs.List.{AllByRecursion, concat}
use Rattle.callers.specs.declared.caller.Driven.{Driven}
use Rattle.callers.specs.declared.caller.Driven.TheVariants.{End}

-- each caller was answered, and its lines came to their end
abbrev pub AllEnded : {A : Type 0} → (how : A → Driven) → List (Option A) → Type 0
AllEnded how = AllByRecursion (λ c. IsSomeAnd c (λ answered. how answered ≡ End))

-- the replies of each caller that was answered, in the order of the callers
abbrev pub all_replies : {A : Type 0} → (replies : A → List ℕ) → List (Option A) → List ℕ
all_replies replies callers = concat (filter_map (option_map replies) callers)

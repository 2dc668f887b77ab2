-- How many administrative reductions are left at most: each leaves fewer labels and frames.
use Rattle.std.specs.Prelude.{ℕ, suc, ◌+◌, ◌<◌, List, [], ◌∷◌, length, Option, Some, None}
use Rattle.step_machine.specs.Inside.Levels.{Level}
use Rattle.label_machine.specs.declared.run.Run.{Run}
use Rattle.label_machine.specs.declared.run.Step.{Step}
use Rattle.label_machine.specs.declared.run.Step.TheVariants.{Goes}
use Rattle.label_machine.specs.declared.run.Doing.{Doing}
use Rattle.label_machine.specs.declared.run.Doing.TheVariants.{Calls}
use Rattle.label_machine.specs.Inside.Runs.{levels}

-- frames and their labels
abbrev pub levels_weight : List Level → ℕ
levels_weight [] = 0
levels_weight (l ∷ ls) = suc (length l.opens) + levels_weight ls

-- a function that is invoked after all frames have ended
abbrev pub pending_weight : Option ℕ → ℕ
pending_weight None = 0
pending_weight (Some func) = 2

abbrev pub doing_weight : Doing → ℕ
doing_weight (Calls func) = 2
doing_weight _ = 0

abbrev pub weight : Run → Doing → ℕ
weight x d = levels_weight (levels x) + (pending_weight x.pending + doing_weight d)

-- what goes on has less left
abbrev pub IsLighter : (than : ℕ) → Step → Type 0
IsLighter n (Goes x d) = weight x d < n
IsLighter n _ = Unit {0}

abbrev pub step_weight : Step → ℕ
step_weight (Goes x d) = suc (weight x d)
step_weight _ = 0

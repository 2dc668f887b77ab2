-- Administrative reductions leave fewer labels and frames.
use Rattle.std.proofs.Common.{◌≡◌, ℕ, ◌+◌, ◌<◌, ◌≤◌, List, [], ◌∷◌, map, length, ap, arith}
use Rattle.step_machine.specs.Inside.Levels.{Level}
use Rattle.label_machine.specs.declared.label.Label.{Label}
use Rattle.label_machine.specs.declared.frame.Frame.{Frame}
use Rattle.label_machine.specs.declared.run.Run.{Run}
use Rattle.label_machine.specs.declared.run.Doing.{Doing}
use Rattle.label_machine.specs.declared.run.Doing.TheVariants.{Next, Calls}
use Rattle.label_machine.specs.declared.run.Step.{Step}
use Rattle.label_machine.specs.declared.run.Step.TheVariants.{Goes, Waits, Ends, Stuck}
use Rattle.label_machine.specs.Inside.View.{open_of, level_of}
use Rattle.label_machine.specs.Inside.Weights.{levels_weight, pending_weight, doing_weight, weight, IsLighter}

pub lighter_than : (n k : ℕ) (s : Step) → n ≤ k → IsLighter n s → IsLighter k s
lighter_than n k (Goes x d) le h = omega (arith, le, h)
lighter_than n k (Waits x) le h = tt
lighter_than n k (Ends e r) le h = tt
lighter_than n k Stuck le h = tt

-- a frame that ends leaves those that called
pub frame_lighter :
    (x : Run) (d : Doing)
    → 1 + levels_weight (map level_of x.callers) + pending_weight x.pending ≤ weight x d
frame_lighter x d = omega arith

-- a block that is left
pub popped_lighter :
    (x : Run) (b : Label) (bs : List Label) (f : Frame) (d e : Doing) → x.top.labels ≡ b ∷ bs
    → length (map open_of f.labels) ≡ length (map open_of bs) → doing_weight e ≤ doing_weight d
    → weight (record x { top = f }) e < weight x d
popped_lighter x b bs f d e labels same le =
    let before = ap (λ (cs : List Label). length (map open_of cs)) labels in
    omega (arith, before, same, le)

-- the frame that is given values
pub given_lighter :
    (y : Run) (fs : List Frame) (k : Frame) → fs ≡ k ∷ y.callers
    → length (map open_of y.top.labels) ≡ length (map open_of k.labels)
    → weight y Next < 1 + levels_weight (map level_of fs) + pending_weight y.pending
given_lighter y fs k are same =
    let before = ap (λ (gs : List Frame). levels_weight (map level_of gs)) are in
    omega (arith, before, same)

-- a function that is called
pub called_lighter :
    (x y : Run) (func : ℕ) (outer : Level) → y.pending ≡ x.pending
    → map level_of y.callers ≡ outer ∷ map level_of x.callers
    → length outer.opens ≡ length (map open_of x.top.labels) → length (map open_of y.top.labels) ≡ 0
    → weight y Next < weight x (Calls func)
called_lighter x y func outer pending callers opens none =
    let p = ap pending_weight pending in
    let c = ap levels_weight callers in
    omega (arith, p, c, opens, none)

-- a system call
pub answered_lighter :
    (x y : Run) (func : ℕ) → y.pending ≡ x.pending → map level_of y.callers ≡ map level_of x.callers
    → length (map open_of y.top.labels) ≡ length (map open_of x.top.labels) → weight y Next < weight x (Calls func)
answered_lighter x y func pending callers opens =
    let p = ap pending_weight pending in
    let c = ap levels_weight callers in
    omega (arith, p, c, opens)

-- the first frame
pub first_lighter :
    (y : Run) → y.callers ≡ [] → length (map open_of y.top.labels) ≡ 0 → weight y Next < 2 + pending_weight y.pending
first_lighter y alone none =
    let c = ap (λ (fs : List Frame). levels_weight (map level_of fs)) alone in
    omega (arith, c, none)

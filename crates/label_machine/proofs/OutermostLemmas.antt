-- What is invoked outside all frames.
use Rattle.std.proofs.Common.{◌≡◌, ℕ, ◌+◌, ◌<◌, ◌≤◌, List, [], ◌∷◌, map, length, Option, MatchOption, Some, None, subst, refl, sym, ap, ◌∙◌, inr, arith}
use Rattle.std.specs.Prelude.{slice_get}
use Rattle.wasm_ast.specs.declared.values.Value.{Value}
use Rattle.wasm_ast.specs.declared.values.FuncType.{FuncType}
use Rattle.wasm_ast.specs.declared.trap.Trap.TheVariants as trap
use Rattle.wasm_ast.specs.Syntax.{Op, Ops, next}
use Rattle.step_machine.specs.Limits.{max_values}
use Rattle.wasm_ast.specs.declared.module.Module.{Module}
use Rattle.oci_config.specs.declared.process.ProcessConfig.{ProcessConfig}
use Rattle.step_machine.specs.Program.{own, Program, program}
use Rattle.step_machine.specs.Configuration.{Store, Tree, seq, Items, done, more, frame, invoke, items_of, running, trapped, Configuration, items_values, items_frames}
use Rattle.step_machine.specs.Reduction.{Reduced, to, reduce, of_reduced}
use Rattle.step_machine.specs.Turns.{settled}
use Rattle.step_machine.specs.Inside.Levels.{Level, values_of, all_values}
use Rattle.step_machine.proofs.TreeLimits.{plain_frames, plain_values}
use Rattle.step_machine.proofs.LevelReductions.{env}
use Rattle.step_machine.proofs.LevelSettling.{conf, unsettled, steps_to, settled_stays, too_much}
use Rattle.label_machine.specs.declared.frame.Frame.{Frame}
use Rattle.label_machine.specs.declared.run.Run.{Run}
use Rattle.label_machine.specs.declared.run.Step.TheVariants.{Stuck}
use Rattle.label_machine.specs.declared.store.Store.{Store as StoreValue}
use Rattle.wasm_ast.specs.declared.instr.Instr.{Instr}
use Rattle.wasm_ast.specs.View.{op_of}
use Rattle.label_machine.specs.Inside.View.{ops_in, level_of}
use Rattle.label_machine.specs.Inside.Callees.{IsCallOf}
use Rattle.label_machine.specs.Inside.Runs.{store_of, tail_from, configured, IsBeyond, values, frames, IsInvalid, outside, HasProcess, Leads}

-- a function that takes nothing is invoked above these operands
module _ (p : Program) (r : Store) (tail : Items) (f : ℕ) (t : FuncType) (zeros : List Value) (body : Ops)
    (is : slice_get p.functions f ≡ Some (own t zeros body)) (none : t.params ≡ []) (vs : List Value) where
  abbrev pub entered : Tree
  entered = seq vs (more (frame (length t.results) f zeros (seq [] (items_of 0 body))) tail)

  abbrev about : Tree
  about = seq vs (more (invoke f) tail)

  reduces : reduce p (env p r []) about ≡ to (env p r []) entered
  reduces = rw (is, none) refl

  pub invoked_over :
      max_values < length vs + length zeros → settled p (conf r (running about)) ≡ conf r (trapped trap.Exhausted)
  invoked_over over =
      let pv = plain_values 0 body in
      unsettled p (conf r (running about)) refl
      ∙ (ap (λ (x : Reduced). settled p (of_reduced x)) reduces
      ∙ ap (λ s. settled p (conf r s)) (too_much p r tail entered (inr (omega (arith, over, pv)))))

  pub invoked_within :
      length vs + length zeros ≤ max_values → items_values tail ≡ 0 → items_frames tail ≡ 0
      → settled p (conf r (running about)) ≡ settled p (conf r (running entered))
  invoked_within few nv nf =
      let pv = plain_values 0 body in
      let pf = plain_frames 0 body in
      unsettled p (conf r (running about)) refl
      ∙ ap (settled p) (steps_to p r r about entered reduces (omega (arith, pf, nf)) (omega (arith, few, pv, nv)))

-- and nothing is pending after it
module _ (p : Program) (s : StoreValue) (f : ℕ) (t : FuncType) (zeros : List Value) (none : t.params ≡ [])
    (vs : List Value) (has : HasProcess p s) where
  abbrev r : Store
  r = store_of s

  abbrev pub calling : Configuration
  calling = configured s (running (seq vs (more (invoke f) done)))

  abbrev before : Ops → Tree
  before body = seq vs (more (frame (length t.results) f zeros (seq [] (items_of 0 body))) done)

  pub above_waits :
      (o : Op) (os : Ops) → slice_get p.functions f ≡ Some (own t zeros (next o os))
      → length vs + length zeros ≤ max_values → 0 < length vs → Leads p calling Stuck
  above_waits o os is few some =
      let there : settled p calling ≡ conf r (running (before (next o os))) =
      invoked_within p r done f t zeros (next o os) is none vs few refl refl
      ∙ settled_stays p (conf r (running (before (next o os)))) refl in
      by_list vs refl some (ap (λ (c : Configuration). c.state) there)
    where
      by_list :
          (us : List Value) → vs ≡ us → 0 < length us
          → (settled p calling).state ≡ running (before (next o os)) → IsInvalid (settled p calling)
      by_list [] e less h = absurd (omega (arith, less))
      by_list (u ∷ us) e less h =
          outside u us (frame (length t.results) f zeros (seq [] (items_of 0 (next o os)))) done
          (h
          ∙ ap (λ (ws : List Value). running (seq ws
          (more (frame (length t.results) f zeros (seq [] (items_of 0 (next o os)))) done))) e)

-- the first frame is beyond the limits
pub begins_over :
    (m : Module) (pr : ProcessConfig) (func : ℕ) (t : FuncType) (x : Run) → t.params ≡ []
    → IsCallOf m func t [] (level_of x.top) → x.callers ≡ [] → IsBeyond x
    → settled (program m pr)
    (conf (store_of x.store) (running (seq [] (more (invoke func) (tail_from x.pending)))))
    ≡ configured x.store (trapped trap.Exhausted)
begins_over m pr func t x none call alone beyond =
    invoked_over (program m pr) (store_of x.store) (tail_from x.pending) func t call.zeros call.body call.is none []
    (over beyond)
  where
    over : IsBeyond x → max_values < 0 + length call.zeros
    over (values v) =
        let top = ap values_of call.level in
        let others = ap (λ (fs : List Frame). all_values (map level_of fs)) alone in
        omega (arith, v, top, others)
    over (frames f) =
        let others = ap (λ (fs : List Frame). length (map level_of fs)) alone in
        absurd (omega (arith, f, others))

-- a frame that is called so
module _ (m : Module) (pr : ProcessConfig) (s : StoreValue) (func : ℕ) (t : FuncType) (vs : List Value) (f : Frame)
    (call : IsCallOf m func t [] (level_of f)) (none : t.params ≡ []) (has : HasProcess (program m pr) s) where
  same_locals : length f.locals.items ≡ length call.zeros
  same_locals = ap (λ (l : Level). length l.locals) call.level

  abbrev start : Configuration
  start = calling (program m pr) s func t call.zeros none vs has

  pub above_something :
      length vs + length f.locals.items ≤ max_values → 0 < length vs → 0 < length f.ahead.rest.now
      → Leads (program m pr) start Stuck
  above_something few some more_of = by_rest f.ahead.rest.now refl more_of
    where
      by_rest : (is : List Instr) → f.ahead.rest.now ≡ is → 0 < length is → Leads (program m pr) start Stuck
      by_rest [] e less = absurd (omega (arith, less))
      by_rest (i ∷ is) e less =
          let same = same_locals in
          let body : call.body ≡ next (op_of i) (ops_in is) =
          sym (ap (λ (l : Level). l.rest) call.level) ∙ ap ops_in e in
          above_waits (program m pr) s func t call.zeros none vs has (op_of i) (ops_in is)
          (call.is ∙ ap (λ (b : Ops). Some (own t call.zeros b)) body) (omega (arith, few, same)) some

pub nothing_there : {X : Type 0} (xs : List X) → length xs ≡ 0 → xs ≡ []
nothing_there [] h = refl
nothing_there (x ∷ xs) h = absurd (omega (arith, h))

-- what is so of a frame that was found, or of none
module _ {A : Type 0} (P : Type 0) (Q : A → Type 0) where
  pub some_so : (o : Option A) (a : A) → o ≡ Some a → MatchOption o P Q → Q a
  some_so (Some b) a is h = let same : b ≡ a = cc in subst Q same h
  some_so None a is h = cc

  pub none_so : (o : Option A) → ((a : A) → o ≡ Some a → ⊥) → MatchOption o P Q → P
  none_so (Some b) other h = absurd (other b refl)
  none_so None other h = h

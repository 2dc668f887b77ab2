-- What calls make of the machine's data.
use Rattle.std.proofs.Common.{◌≡◌, ◌≢◌, ℕ, ◌+◌, ◌<◌, List, ◌∷◌, map, take, drop, reverse, length, Option, Some, None, true, subst, refl, sym, ap, ◌∙◌, inl, inr, arith}
use Rattle.std.specs.Prelude.{slice_get, ◌⊎◌, option_to_list}
use Rattle.wasm_ast.specs.declared.values.Value.{Value}
use Rattle.wasm_ast.specs.declared.values.Value.TheVariants.{I32}
use Rattle.wasm_ast.specs.declared.values.FuncType.{FuncType}
use Rattle.wasm_ast.specs.declared.trap.Trap.TheVariants as trap
use Rattle.wasm_ast.specs.Syntax.{Ops}
use Rattle.step_machine.specs.Limits.{max_frames, max_values}
use Rattle.wasi_calls.specs.declared.host_call.HostCall.{HostCall}
use Rattle.wasi_calls.specs.declared.host_end.HostEnd.TheVariants as host_end
use Rattle.wasi_calls.specs.HostCalls.{host_type}
use Rattle.wasi_calls.specs.SystemCalls.{HostState, HostDone}
use Rattle.oci_config.specs.declared.process.ProcessConfig.{ProcessConfig}
use Rattle.wasi_calls.specs.SystemCalls as system
use Rattle.step_machine.specs.Program.{Function, host, own, unknown, type_of_function, Program}
use Rattle.step_machine.specs.Effects.{Env}
use Rattle.step_machine.specs.Reduction.{Reduced, ends, host_state, with_host_state, by_host, call_function, of_reduced}
use Rattle.step_machine.specs.declared.ends.End.TheVariants as end
use Rattle.step_machine.specs.Configuration.{Store, Items, more, invoke, items_of, State, running, exited, trapped, stuck, is_settled, Configuration}
use Rattle.step_machine.specs.Turns.{settled}
use Rattle.step_machine.specs.Inside.Levels.{Level, tree_with, all_values}
use Rattle.step_machine.proofs.LevelSettling.{conf, unsettled, settled_stays, is_unsettled, invokes, exhausts, host_goes, host_exhausts, host_leaves}
use Rattle.step_machine.proofs.LevelReductions.{env, level_ends}
use Rattle.step_machine.proofs.FlatEnds.{tail_values, tail_frames}
use Rattle.label_machine.specs.declared.run.Run.{Run}
use Rattle.label_machine.specs.declared.run.Step.{Step}
use Rattle.label_machine.specs.declared.run.Doing.{Doing}
use Rattle.label_machine.specs.declared.run.Doing.TheVariants.{Next, Calls}
use Rattle.label_machine.specs.Inside.View.{level_of}
use Rattle.label_machine.specs.Inside.Callees.{called_with}
use Rattle.label_machine.specs.Inside.Runs.{store_of, tail_from, config, configured, IsWithin, IsBeyond, values, frames, IsOf, LeadsTo, Limited}
use Rattle.label_machine.specs.Inside.Weights.{weight, IsLighter}
use Rattle.label_machine.proofs.SettleLemmas.{ends_at, config_is, same_levels, fits_in}
use Rattle.label_machine.proofs.HostLemmas.{is_made}
use Rattle.wasm_ast.specs.Types.{type_of}

abbrev call_env : Program → Run → Env
call_env p x = env p (store_of x.store) x.top.locals.items

-- a call that ends the execution
call_ends :
    (p : Program) (x : Run) (func : ℕ) (s : State) → is_settled s ≡ true
    → call_function p (call_env p x) x.top.operands func (slice_get p.functions func)
    (items_of x.top.ahead.place (level_of x.top).rest)
    ≡ ends (call_env p x) s
    → settled p (config x (Calls func)) ≡ conf (store_of x.store) s
call_ends p x func s over h =
    let k = level_of x.top in
    let ks = map level_of x.callers in
    let tail = tail_from x.pending in
    let items = more (invoke func) (items_of k.place k.rest) in
    unsettled p (config x (Calls func)) (is_unsettled p (store_of x.store) k ks tail items refl)
    ∙ (ap (λ (y : Reduced). settled p (of_reduced y))
    (level_ends p k ks tail (store_of x.store) (call_env p x) items s refl h)
    ∙ settled_stays p (conf (store_of x.store) s) over)

-- a call is one with arguments of its types
no_call :
    (c : ProcessConfig) (h : HostCall) (vs : List Value) (s : HostState) → map type_of vs ≢ (host_type h).params
    → system.host c h vs s ≡ None
no_call c h vs s other = by_answer (system.host c h vs s) refl
  where
    by_answer : (o : Option HostDone) → system.host c h vs s ≡ o → o ≡ None
    by_answer None e = refl
    by_answer (Some d) e = let made = is_made c h vs s d e in absurd (other made.typed)

-- data that go on or have passed a limit are where the configuration goes on or is exhausted
pub limited_leads :
    (p : Program) (c : Configuration) (x : Run) (d : Doing) (s : Step) → Limited x d s → IsOf p x.pending x.store
    → (IsWithin x → c ≡ settled p (config x d))
    → (IsBeyond x → c ≡ configured x.store (trapped trap.Exhausted)) → LeadsTo p c s
limited_leads p c x d s (inl h) o goes stops = subst (LeadsTo p c) (sym h.0) (goes h.1, h.1, o)
limited_leads p c x d s (inr h) o goes stops =
    subst (LeadsTo p c) (sym h.0)
    (ends_at c (end.Trapped trap.Exhausted) x.store (stops h.1), o.process)

-- what goes on is lighter, and so is an end
pub limited_lighter : (n : ℕ) (x : Run) (d : Doing) (s : Step) → Limited x d s → weight x d < n → IsLighter n s
limited_lighter n x d s (inl h) less = subst (IsLighter n) (sym h.0) less
limited_lighter n x d s (inr h) less = subst (IsLighter n) (sym h.0) tt

-- there is no function to be called
pub calls_none :
    (p : Program) (x : Run) (func : ℕ) → type_of_function (slice_get p.functions func) ≡ None
    → settled p (config x (Calls func)) ≡ conf (store_of x.store) stuck
calls_none p x func none =
    call_ends p x func stuck refl
    (fails_so (slice_get p.functions func) none)
  where
    fails_so :
        (o : Option Function) → type_of_function o ≡ None
        → call_function p (call_env p x) x.top.operands func o
        (items_of x.top.ahead.place (level_of x.top).rest)
        ≡ ends (call_env p x) stuck
    fails_so None h = refl
    fails_so (Some (host h)) e = cc
    fails_so (Some (own t zeros body)) e = cc
    fails_so (Some unknown) h = refl

-- its arguments are not there
pub calls_without :
    (p : Program) (x : Run) (func : ℕ) (h : HostCall) → slice_get p.functions func ≡ Some (host h)
    → map type_of (reverse (take (length (host_type h).params) x.top.operands)) ≢ (host_type h).params
    → settled p (config x (Calls func)) ≡ conf (store_of x.store) stuck
calls_without p x func h is other =
    let k = level_of x.top in
    let rest = items_of k.place k.rest in
    call_ends p x func stuck refl
    (ap (λ (o : Option Function). call_function p (call_env p x) k.operands func o rest) is
    ∙ ap (λ (o : Option HostDone). by_host (call_env p x) o (drop (length (host_type h).params) k.operands) rest)
    (no_call p.process h (reverse (take (length (host_type h).params) k.operands))
    (host_state (store_of x.store)) other))

-- a call of an own function: the data before it, and after
pub record Called (p : Program) (x y : Run) (func : ℕ) (t : FuncType) (zeros : List Value) (body : Ops) : Type 0 where
  pub is : slice_get p.functions func ≡ Some (own t zeros body)
  pub top : level_of y.top ≡ called_with t func (reverse (take (length t.params) x.top.operands)) zeros body
  pub callers :
      map level_of y.callers
      ≡ record (level_of x.top) { operands = drop (length t.params) x.top.operands } ∷ map level_of x.callers
  pub pending : y.pending ≡ x.pending
  pub store : store_of y.store ≡ store_of x.store

module _ (p : Program) (x y : Run) (func : ℕ) (t : FuncType) (zeros : List Value) (body : Ops)
    (h : Called p x y func t zeros body) where
  abbrev r : Store
  r = store_of x.store

  abbrev l : Level
  l = level_of x.top

  abbrev ls : List Level
  ls = map level_of x.callers

  abbrev inner : Level
  inner = called_with t func (reverse (take (length t.params) x.top.operands)) zeros body

  abbrev outer : Level
  outer = record l { operands = drop (length t.params) x.top.operands }

  same_tail : tail_from y.pending ≡ tail_from x.pending
  same_tail = ap tail_from h.pending

  pub call_goes : IsWithin y → settled p (config x (Calls func)) ≡ settled p (config y Next)
  call_goes within =
      let fit = fits_in y r inner (outer ∷ ls) h.top h.callers h.store p within in
      ap (λ (tl : Items). settled p
      (conf r (running (tree_with l ls tl (more (invoke func) (items_of l.place l.rest))))))
      (sym same_tail)
      ∙ (invokes p r (tail_from y.pending) l ls func t zeros body h.is fit
      ∙ ap (settled p) (config_is y r inner (outer ∷ ls) h.top h.callers h.store (λ k. items_of k.place k.rest)))

  over : IsBeyond y → (max_frames < length ls + 2) ⊎ (max_values < all_values (inner ∷ outer ∷ ls))
  over (values v) =
      inr (subst (λ ks. max_values < all_values ks) (same_levels y r inner (outer ∷ ls) h.top h.callers h.store) v)
  over (frames f) =
      let g =
      subst (λ (ks : List Level). max_frames < length ks) (same_levels y r inner (outer ∷ ls) h.top h.callers h.store) f
      in
      inl (omega (arith, g))

  pub call_exhausts : IsBeyond y → settled p (config x (Calls func)) ≡ configured y.store (trapped trap.Exhausted)
  call_exhausts beyond =
      exhausts p r (tail_from x.pending) l ls func t zeros body h.is (tail_values (option_to_list x.pending))
      (tail_frames (option_to_list x.pending)) (over beyond)
      ∙ ap (λ (q : Store). conf q (trapped trap.Exhausted)) (sym h.store)

-- a system call: the data before it, and after, with a result
pub record Answered (p : Program) (x y : Run) (func : ℕ) (h : HostCall) (d : HostDone) (number : ℕ) : Type 0 where
  pub is : slice_get p.functions func ≡ Some (host h)
  pub made :
      system.host p.process h (reverse (take (length (host_type h).params) x.top.operands))
      (host_state (store_of x.store))
      ≡ Some d
  pub answer : d.answer ≡ host_end.Value number
  pub top :
      level_of y.top
      ≡ record (level_of x.top) { operands = I32 number ∷ drop (length (host_type h).params) x.top.operands }
  pub callers : map level_of y.callers ≡ map level_of x.callers
  pub pending : y.pending ≡ x.pending
  pub store : store_of y.store ≡ with_host_state (store_of x.store) d.state

module _ (p : Program) (x y : Run) (func : ℕ) (h : HostCall) (d : HostDone) (number : ℕ)
    (a : Answered p x y func h d number) where
  abbrev before : Store
  before = store_of x.store

  abbrev after : Store
  after = with_host_state before d.state

  abbrev k : Level
  k = level_of x.top

  abbrev ks : List Level
  ks = map level_of x.callers

  abbrev answered_level : Level
  answered_level = record k { operands = I32 number ∷ drop (length (host_type h).params) x.top.operands }

  same_end : tail_from y.pending ≡ tail_from x.pending
  same_end = ap tail_from a.pending

  at_call : settled p (config x (Calls func))
      ≡ settled p
      (conf before (running (tree_with k ks (tail_from y.pending) (more (invoke func) (items_of k.place k.rest)))))
  at_call =
      ap (λ (tl : Items). settled p
      (conf before (running (tree_with k ks tl (more (invoke func) (items_of k.place k.rest))))))
      (sym same_end)

  pub system_goes : IsWithin y → settled p (config x (Calls func)) ≡ settled p (config y Next)
  system_goes within =
      let fit = fits_in y after answered_level ks a.top a.callers a.store p within in
      at_call
      ∙ (host_goes p before (tail_from y.pending) k ks func h d a.is a.made number a.answer
      (record { values = fit.values; frames = fit.frames; no_values = fit.no_values; no_frames = fit.no_frames })
      ∙ ap (settled p) (config_is y after answered_level ks a.top a.callers a.store (λ j. items_of j.place j.rest)))

  pub system_exhausts :
      IsWithin x → IsBeyond y → settled p (config x (Calls func)) ≡ configured y.store (trapped trap.Exhausted)
  system_exhausts within beyond =
      at_call
      ∙ (host_exhausts p before (tail_from y.pending) k ks func h d a.is a.made number a.answer (over_values beyond)
      ∙ ap (λ (q : Store). conf q (trapped trap.Exhausted)) (sym a.store))
    where
      over_values : IsBeyond y → max_values < all_values (answered_level ∷ ks)
      over_values (values v) =
          subst (λ js. max_values < all_values js) (same_levels y after answered_level ks a.top a.callers a.store) v
      over_values (frames f) =
          let g =
          subst (λ (js : List Level). max_frames < length js)
          (same_levels y after answered_level ks a.top a.callers a.store) f in
          let w = within.frames in
          absurd (omega (arith, g, w))

pub system_leaves :
    (p : Program) (x : Run) (func : ℕ) (h : HostCall) (d : HostDone) (number : ℕ)
    → slice_get p.functions func ≡ Some (host h)
    → system.host p.process h (reverse (take (length (host_type h).params) x.top.operands))
    (host_state (store_of x.store))
    ≡ Some d
    → d.answer ≡ host_end.Exit number
    → settled p (config x (Calls func)) ≡ conf (with_host_state (store_of x.store) d.state) (exited number)
system_leaves p x func h d number is made answer =
    host_leaves p (store_of x.store) (tail_from x.pending) (level_of x.top) (map level_of x.callers) func h d is made
    number answer

-- the call that was made, with the process and the arguments as they were kept
pub made_so :
    (p : Program) (pr : ProcessConfig) (h : HostCall) (args vs : List Value) (s : HostState) (d : HostDone)
    → pr ≡ p.process → args ≡ vs → system.host pr h args s ≡ Some d → system.host p.process h vs s ≡ Some d
made_so p pr h args vs s d a b made =
    ap (λ q. system.host q h vs s) (sym a) ∙ (ap (λ (us : List Value). system.host pr h us s) (sym b) ∙ made)

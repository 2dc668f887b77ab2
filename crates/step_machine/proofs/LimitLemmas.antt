-- The limits of frames and values hold after any number of turns.
use Rattle.std.proofs.Common.{◌≡◌, ℕ, zero, suc, ◌≤◌, ◌==◌, List, Bool, true, false, ◌||◌, cond, nat_lt, Option, Some, None, true≢false, refl, sym, ap, ◌∙◌, subst, arith}
use Rattle.std.specs.Prelude.{slice_get, if◌then◌else◌}
use Rattle.std.proofs.lemmas.Bool.Decides.{nat_tests}
use Rattle.wasm_ast.specs.declared.values.Value.{Value}
use Rattle.wasm_ast.specs.declared.trap.Trap.TheVariants as trap
use Rattle.wasm_ast.specs.declared.module.Module.{Module}
use Rattle.oci_config.specs.declared.process.ProcessConfig.{ProcessConfig}
use Rattle.wasi_calls.specs.declared.host_end.HostEnd.{HostEnd}
use Rattle.wasi_calls.specs.declared.host_end.HostEnd.TheVariants as host_end
use Rattle.wasi_calls.specs.SystemCalls.{HostDone}
use Rattle.step_machine.specs.Limits.{max_frames, max_values, last_turn}
use Rattle.step_machine.specs.Program.{Function, host, own, unknown, Program, program}
use Rattle.step_machine.specs.Configuration.{Store, Target, Tree, seq, Items, done, more, Item, plain, label, frame, enter, invoke, branch, ret, State, running, exited, trapped, stuck, Configuration, frames, values, is_halted, is_settled}
use Rattle.step_machine.specs.Effects.{Env, Effect, gives, becomes, halts, effect}
use Rattle.step_machine.specs.Reduction.{Reduced, to, ends, by_effect, at_label, at_frame, answered, by_host, call_function, reduce, reduce_item, limited, of_reduced, step_state, step}
use Rattle.step_machine.specs.Turns.{settle, turn, numbered, from, state_weight}
use Rattle.step_machine.specs.Instantiation.{entry, first_state, first_store, initial, after}
use Rattle.step_machine.proofs.OutputLemmas.{is_end, Kept, effect_kept}

abbrev pub Fits : State → Type 0
Fits s = (t : Tree) → s ≡ running t → (frames t ≤ max_frames) × (values t ≤ max_values)

end_fits : (s : State) → is_end s ≡ true → Fits s
end_fits s end t same = absurd (true≢false (sym end ∙ ap is_end same))

abbrev tree_of : Tree → State → Tree
tree_of other (running t) = t
tree_of other _ = other

running_fits : (t : Tree) → frames t ≤ max_frames → values t ≤ max_values → Fits (running t)
running_fits t f v t' same =
    subst (λ u. (frames u ≤ max_frames) × (values u ≤ max_values)) (ap (tree_of t) same) (f, v)

limited_fits : (t : Tree) → Fits (limited t)
limited_fits t = by_frames (nat_lt max_frames (frames t)) (nat_lt max_values (values t)) refl refl
  where
    by_frames : (a b : Bool) → nat_lt max_frames (frames t) ≡ a → nat_lt max_values (values t) ≡ b
        → Fits (if a || b then trapped trap.Exhausted else running t)
    by_frames true b f v = end_fits (trapped trap.Exhausted) refl
    by_frames false true f v = end_fits (trapped trap.Exhausted) refl
    by_frames false false f v = running_fits t (grind (arith, nat_tests, f)) (grind (arith, nat_tests, v))

-- ---- what a reduction ends in is an end

abbrev Ends : Reduced → Type 0
Ends (to env tree) = Unit {0}
Ends (ends env state) = is_end state ≡ true

effect_ends : (env : Env) (x : Effect) (rest : Items) → Kept env x → Ends (by_effect env x rest)
effect_ends env (gives env' vs) rest h = tt
effect_ends env (becomes vs item) rest h = tt
effect_ends env (halts state) rest h = h

label_ends : (env : Env) (vs : List Value) (n k : ℕ) (t : Target) (body : Tree) (inner : Reduced) (rest : Items)
    → Ends inner → Ends (at_label env vs n k t body inner rest)
label_ends env vs n k t (seq ws done) inner rest h = tt
label_ends env vs n k t (seq ws (more (branch zero) is)) inner rest h = tt
label_ends env vs n k t (seq ws (more (branch (suc l)) is)) inner rest h = tt
label_ends env vs n k t (seq ws (more ret is)) inner rest h = tt
label_ends env vs n k t body (to env' body') rest h = tt
label_ends env vs n k t body (ends env' state) rest h = h

frame_ends : (env : Env) (vs : List Value) (n f : ℕ) (ls : List Value) (body : Tree) (inner : Reduced)
    (rest : Items) → Ends inner → Ends (at_frame env vs n f ls body inner rest)
frame_ends env vs n f ls (seq ws done) inner rest h = tt
frame_ends env vs n f ls (seq ws (more (branch zero) is)) inner rest h = tt
frame_ends env vs n f ls (seq ws (more (branch (suc l)) is)) inner rest h = refl
frame_ends env vs n f ls (seq ws (more ret is)) inner rest h = tt
frame_ends env vs n f ls body (to env' body') rest h = tt
frame_ends env vs n f ls body (ends env' state) rest h = h

answer_ends : (env : Env) (a : HostEnd) (vs : List Value) (rest : Items) → Ends (answered env a vs rest)
answer_ends env (host_end.Value n) vs rest = tt
answer_ends env host_end.Nothing vs rest = tt
answer_ends env (host_end.Exit n) vs rest = refl

host_ends : (env : Env) (o : Option HostDone) (vs : List Value) (rest : Items) → Ends (by_host env o vs rest)
host_ends env None vs rest = refl
host_ends env (Some d) vs rest = answer_ends _ d.answer vs rest

module _ (p : Program) where
  call_ends : (env : Env) (vs : List Value) (f : ℕ) (o : Option Function) (rest : Items)
      → Ends (call_function p env vs f o rest)
  call_ends env vs f (Some (host h)) rest = host_ends env _ _ rest
  call_ends env vs f (Some (own t zeros body)) rest = tt
  call_ends env vs f (Some unknown) rest = refl
  call_ends env vs f None rest = refl

  mutual
    reduction_ends : (env : Env) (t : Tree) → Ends (reduce p env t)
    reduction_ends env (seq vs done) = tt
    reduction_ends env (seq vs (more i is)) = item_ends env vs i is

    item_ends : (env : Env) (vs : List Value) (i : Item) (rest : Items) → Ends (reduce_item p env vs i rest)
    item_ends env vs (plain k o) rest =
        effect_ends env (effect p env vs k o) rest (effect_kept env p vs k o)
    item_ends env vs (label n k t body) rest =
        label_ends env vs n k t body (reduce p env body) rest (reduction_ends env body)
    item_ends env vs (frame n f ls body) rest =
        let in_frame : Env = record { store = env.store; locals = ls } in
        frame_ends env vs n f ls body (reduce p in_frame body) rest (reduction_ends in_frame body)
    item_ends env vs (enter m n k j t body) rest = tt
    item_ends env vs (invoke f) rest = call_ends env vs f (slice_get p.functions f) rest
    item_ends env vs (branch l) rest = refl
    item_ends env vs ret rest = refl

  -- ---- so a step fits, whatever was before it

  reduced_fits : (r : Reduced) → Ends r → Fits (of_reduced r).state
  reduced_fits (to env tree) h = limited_fits tree
  reduced_fits (ends env state) h = end_fits state h

  state_fits : (r : Store) (s : State) → Fits (step_state p r s).state
  state_fits r (running t) = reduced_fits (reduce p _ t) (reduction_ends _ t)
  state_fits r (exited n) = end_fits (exited n) refl
  state_fits r (trapped t) = end_fits (trapped t) refl
  state_fits r stuck = end_fits stuck refl

  either : (b : Bool) (x y : Configuration) → Fits x.state → Fits y.state → Fits (cond b x y).state
  either true x y h k = h
  either false x y h k = k

  settling_fits : (n : ℕ) (c : Configuration) → Fits c.state → Fits (settle p n c).state
  settling_fits zero c h = h
  settling_fits (suc n) c h =
      either (is_settled c.state) c (settle p n (step p c)) h
      (settling_fits n (step p c) (state_fits c.store c.state))

  numbered_fits : (k : ℕ) (c : Configuration) → Fits c.state → Fits (numbered p k c).state
  numbered_fits k c h =
      let over : Configuration = record c { state = trapped trap.TurnLimit } in
      either (is_halted c.state) c (cond (k == last_turn) over (turn p c)) h
      (either (k == last_turn) over (turn p c) (end_fits (trapped trap.TurnLimit) refl)
      (settling_fits (state_weight (step p c).state) (step p c) (state_fits c.store c.state)))

  turns_fit : (k n : ℕ) (c : Configuration) → Fits c.state → Fits (from p k c n).state
  turns_fit k zero c h = h
  turns_fit k (suc n) c h = turns_fit (suc k) n (numbered p (suc k) c) (numbered_fits (suc k) c h)

first_fits : (start entry : Option ℕ) → Fits (first_state start entry)
first_fits start None = end_fits stuck refl
first_fits None (Some f) = running_fits _ (omega arith) (omega arith)
first_fits (Some s) (Some f) = running_fits _ (omega arith) (omega arith)

pub limits_hold : (m : Module) (p : ProcessConfig) (n : ℕ) → Fits (after m p n).state
limits_hold m p n =
    let first : Configuration = record { store = first_store m p; state = first_state m.start (entry m) } in
    turns_fit (program m p) 0 n (initial m p)
    (settling_fits (program m p) (state_weight first.state) first (first_fits m.start (entry m)))

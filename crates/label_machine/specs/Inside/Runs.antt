-- Which configurations the machine's data represent.
use Rattle.std.specs.Prelude.{◌≡◌, ◌⊎◌, ℕ, ◌+◌, ◌<◌, ◌≤◌, List, [], ◌∷◌, ◌++◌, map, length, Option, Some, None, option_to_list, slice_get}
use Rattle.std.specs.List.{sum_by}
use Rattle.wasm_ast.specs.declared.values.Value.{Value}
use Rattle.wasm_ast.specs.declared.trap.Trap.TheVariants.{Exhausted}
use Rattle.wasm_ast.specs.declared.values.FuncType.{FuncType}
use Rattle.wasm_ast.specs.Syntax.{Op, Ops, next}
use Rattle.oci_config.specs.Processes.{config_of}
use Rattle.step_machine.specs.declared.ends.End.{End}
use Rattle.step_machine.specs.declared.ends.End.TheVariants.{Returned, Exited, Trapped}
use Rattle.step_machine.specs.Limits.{max_frames, max_values}
use Rattle.step_machine.specs.Program.{Program, own}
use Rattle.step_machine.specs.Configuration.{Store, Tree, seq, Items, done, more, Item, invoke, branch, ret, items_of, State, running, exited, trapped, stuck, Configuration}
use Rattle.step_machine.specs.Turns.{settled}
use Rattle.step_machine.specs.Instantiation.{ended}
use Rattle.step_machine.specs.Inside.Levels.{Level, tree_with, tree_of, all_values}
use Rattle.step_machine.specs.Inside.Simulates.{tail_of}
use Rattle.label_machine.specs.declared.frame.Frame.{Frame}
use Rattle.label_machine.specs.declared.label.Label.{Label}
use Rattle.label_machine.specs.declared.store.Store.{Store as StoreValue}
use Rattle.label_machine.specs.declared.run.Run.{Run}
use Rattle.label_machine.specs.declared.run.Step.{Step}
use Rattle.label_machine.specs.declared.run.Step.TheVariants.{Goes, Waits, Ends, Stuck}
use Rattle.label_machine.specs.declared.run.Doing.{Doing}
use Rattle.label_machine.specs.declared.run.Doing.TheVariants.{Next, Calls, Branches, Returns}
use Rattle.label_machine.specs.Inside.View.{level_of}

-- the operands below a block
abbrev pub values_below : Label → ℕ
values_below l = length l.below

-- the locals and operands of a frame
abbrev pub values_in : Frame → ℕ
values_in f = length f.locals.items + (length f.operands + sum_by values_below f.labels)

abbrev pub levels : Run → List Level
levels x = level_of x.top ∷ map level_of x.callers

abbrev pub store_of : StoreValue → Store
store_of s = record {
  globals = s.globals.items;
  memory = s.memory;
  table = s.table.items;
  out = s.process.out;
  err = s.process.err;
}

-- what the innermost frame is about to do, and what follows
abbrev pub items_for : Doing → Level → Items
items_for Next l = items_of l.place l.rest
items_for (Calls func) l = more (invoke func) (items_of l.place l.rest)
items_for (Branches label) l = more (branch label) (items_of l.place l.rest)
items_for Returns l = more ret (items_of l.place l.rest)

abbrev pub tail_from : (pending : Option ℕ) → Items
tail_from pending = tail_of (option_to_list pending)

abbrev pub config : Run → Doing → Configuration
config x d = record {
  store = store_of x.store;
  state =
      running
      (tree_with (level_of x.top) (map level_of x.callers) (tail_from x.pending)
      (items_for d (level_of x.top)));
}

-- within the limits of values and frames
pub record IsWithin (x : Run) : Type 0 where
  pub values : all_values (levels x) ≤ max_values
  pub frames : length (levels x) ≤ max_frames

-- the outermost frame or one that was called gives these values
abbrev pub given : (results : List Value) → (callers : List Level) → (tail : Items) → Tree
given vs [] tail = seq vs tail
given vs (k ∷ ks) tail = tree_of (record k { operands = vs ++ k.operands }) ks tail

-- and is within the limits then
pub record GivesWithin (results : List Value) (callers : List Level) : Type 0 where
  pub values : length results + all_values callers ≤ max_values
  pub frames : length callers ≤ max_frames

abbrev pub end_state : End → State
end_state Returned = running (seq [] done)
end_state (Exited number) = exited number
end_state (Trapped t) = trapped t

abbrev pub configured : StoreValue → State → Configuration
configured s state = record { store = store_of s; state = state }

-- an instruction is next
pub record HasNext (x : Run) : Type 0 where
  pub op : Op
  pub rest : Ops
  pub is : (level_of x.top).rest ≡ next op rest

-- the execution has ended so, with this store
pub record HasEnded (c : Configuration) (e : End) (s : StoreValue) : Type 0 where
  pub store : c.store ≡ store_of s
  pub ended : ended c.state ≡ Some e

-- a valid module does not come here: there is no rule, or an instruction is next while there are operands
-- outside all frames
pub data IsInvalid (c : Configuration) : Type 0 where
  no_rule : c.state ≡ stuck → IsInvalid c
  outside : (v : Value) (vs : List Value) (i : Item) (is : Items)
      → c.state ≡ running (seq (v ∷ vs) (more i is)) → IsInvalid c

module _ (p : Program) where
  -- a function of the module's own that takes nothing
  pub record IsPending (func : ℕ) : Type 0 where
    pub type : FuncType
    pub zeros : List Value
    pub body : Ops
    pub is : slice_get p.functions func ≡ Some (own type zeros body)
    pub takes_nothing : type.params ≡ []

  abbrev pub MayBePending : Option ℕ → Type 0
  MayBePending None = Unit {0}
  MayBePending (Some func) = IsPending func

  abbrev pub HasProcess : StoreValue → Type 0
  HasProcess s = config_of s.process ≡ p.process

  pub record IsOf (pending : Option ℕ) (s : StoreValue) : Type 0 where
    pub process : HasProcess s
    pub invoked_later : MayBePending pending

  -- a configuration is what these data settle to, or that in which the execution waits or has ended
  abbrev pub LeadsTo : Configuration → Step → Type 0
  LeadsTo c (Goes x d) = (c ≡ settled p (config x d)) × IsWithin x × IsOf x.pending x.store
  LeadsTo c (Waits x) = (c ≡ config x Next) × IsWithin x × IsOf x.pending x.store × HasNext x
  LeadsTo c (Ends e s) = HasEnded c e s × HasProcess s
  LeadsTo c Stuck = IsInvalid c

  -- administrative reductions lead there
  abbrev pub Leads : Configuration → Step → Type 0
  Leads c s = LeadsTo (settled p c) s

-- beyond the limits of values and frames
pub data IsBeyond (x : Run) : Type 0 where
  values : max_values < all_values (levels x) → IsBeyond x
  frames : max_frames < length (levels x) → IsBeyond x

-- data that go on so, or that have passed a limit
abbrev pub Limited : Run → Doing → Step → Type 0
Limited x d s =
    ((s ≡ Goes x d) × IsWithin x) ⊎ ((s ≡ Ends (Trapped Exhausted) x.store) × IsBeyond x)

-- the instruction at this place is next, and what follows is what the data have next
abbrev pub about_to : Run → (place : ℕ) → Op → Configuration
about_to x place o = record {
  store = store_of x.store;
  state =
      running
      (tree_of (record (level_of x.top) { place = place; rest = next o (level_of x.top).rest })
      (map level_of x.callers) (tail_from x.pending));
}

-- an instruction is next, or the execution has ended
abbrev pub IsSettled : Step → Type 0
IsSettled (Goes x d) = ⊥
IsSettled (Waits x) = Unit {0}
IsSettled (Ends e s) = Unit {0}
IsSettled Stuck = Unit {0}

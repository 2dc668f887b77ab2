-- The innermost of the frames that are shown is that of the next instruction.
use Rattle.std.proofs.Common.{◌≡◌, ◌≤◌, ℕ, zero, suc, Option, List, [], ◌∷◌, ◌++◌, length, take, drop, Some, None, refl, ap, ◌∙◌, arith}
use Rattle.std.specs.Prelude.{reverse, true, slice_get, if◌then◌else◌}
use Rattle.wasm_ast.specs.declared.values.Value.{Value}
use Rattle.wasm_ast.specs.declared.values.FuncType.{FuncType}
use Rattle.wasm_ast.specs.Syntax.{Op, Ops, next}
use Rattle.step_machine.specs.Limits.{max_values}
use Rattle.step_machine.specs.Program.{Program, Function, own}
use Rattle.step_machine.specs.Reduction.{Reduced, to, call_function, of_reduced, limited, step}
use Rattle.step_machine.specs.Effects.{Env}
use Rattle.step_machine.specs.Turns.{settled}
use Rattle.step_machine.specs.Configuration.{Store, Configuration, items_of, Tree, seq, Items, done, more, Item, plain, label, frame, enter, invoke, branch, ret, State, running, exited, trapped, stuck, is_halted, is_settled}
use Rattle.step_machine.proofs.TreeLimits.{plain_frames, plain_values, within}
use Rattle.step_machine.specs.Places.{Next, tree_next, items_next, item_next}
use Rattle.wasm_ast.specs.declared.shown.ShownFrame.{ShownFrame}
use Rattle.step_machine.specs.Shown.{bare_frame, next_of, tree_shown, items_shown, item_shown, shown, innermost, items_innermost, item_innermost}

-- these frames begin with that of the instruction, which is next in it
abbrev pub BeginsAt : Next → List ShownFrame → Type 0
BeginsAt x fs =
    (f : ShownFrame) × (outer : List ShownFrame) × (fs ≡ f ∷ outer) × (f.func ≡ x.func)
    × (f.next ≡ Some x.place)

begins_before : (x : Next) (fs others : List ShownFrame) → BeginsAt x fs → BeginsAt x (fs ++ others)
begins_before x fs others b =
    (b.0, b.1 ++ others, ap (λ (gs : List ShownFrame). gs ++ others) b.2, b.3, b.4)

mutual
  tree_begins :
      (x : Next) (t : Tree) (f : ShownFrame) → tree_next (Some f.func) t ≡ Some x
      → BeginsAt x (tree_shown f t)
  tree_begins x (seq vs is) f h = items_begin x is (record f { operands = f.operands ++ reverse vs }) h

  items_begin :
      (x : Next) (is : Items) (f : ShownFrame) → items_next (Some f.func) is ≡ Some x
      → BeginsAt x (items_shown f is)
  items_begin x done f h = cc
  items_begin x (more i is) f h = item_begins x i (record f { next = next_of is f.next }) h

  item_begins :
      (x : Next) (i : Item) (f : ShownFrame) → item_next (Some f.func) i ≡ Some x
      → BeginsAt x (item_shown f i)
  item_begins x (plain k o) f h = (record f { next = Some k }, [], refl, cc, cc)
  item_begins x (label n k g t) f h = tree_begins x t (record f { labels = k ∷ f.labels }) h
  item_begins x (frame n callee ls t) f h =
      begins_before x (tree_shown (bare_frame callee ls) t) (f ∷ []) (tree_begins x t (bare_frame callee ls) h)
  item_begins x (enter taken n k first g os) f h = cc
  item_begins x (invoke callee) f h = cc
  item_begins x (branch k) f h = cc
  item_begins x ret f h = cc

pub shown_begins : (t : Tree) (x : Next) → tree_next None t ≡ Some x → BeginsAt x (shown (running t))
shown_begins (seq vs done) x h = cc
shown_begins (seq vs (more (plain k o) is)) x h = cc
shown_begins (seq vs (more (label n k g t) is)) x h = shown_begins t x h
shown_begins (seq vs (more (frame n callee ls t) is)) x h = tree_begins x t (bare_frame callee ls) h
shown_begins (seq vs (more (enter taken n k first g os) is)) x h = cc
shown_begins (seq vs (more (invoke callee) is)) x h = cc
shown_begins (seq vs (more (branch k) is)) x h = cc
shown_begins (seq vs (more ret is)) x h = cc

pub shows_none : (s : State) → is_halted s ≡ true → shown s ≡ []
shows_none (running (seq vs done)) h = refl
shows_none (running (seq vs (more i is))) h = cc
shows_none (exited n) h = refl
shows_none (trapped t) h = refl
shows_none stuck h = cc

-- ---- operands

-- the first of these frames has operands that end so
abbrev pub EndsWith : List Value → List ShownFrame → Type 0
EndsWith vs fs =
    (f : ShownFrame) × (outer : List ShownFrame) × (below : List Value) × (fs ≡ f ∷ outer)
    × (f.operands ≡ below ++ reverse vs)

ends_before : (vs : List Value) (fs others : List ShownFrame) → EndsWith vs fs → EndsWith vs (fs ++ others)
ends_before vs fs others b = (b.0, b.1 ++ others, b.2, ap (λ (gs : List ShownFrame). gs ++ others) b.3, b.4)

mutual
  tree_ends : (t : Tree) (f : ShownFrame) → EndsWith (innermost t) (tree_shown f t)
  tree_ends (seq vs is) f = items_end is vs (record f { operands = f.operands ++ reverse vs }) f.operands refl

  items_end :
      (is : Items) (vs : List Value) (f : ShownFrame) (below : List Value) → f.operands ≡ below ++ reverse vs
      → EndsWith (items_innermost vs is) (items_shown f is)
  items_end done vs f below h = (f, [], below, refl, h)
  items_end (more i is) vs f below h = item_ends i vs (record f { next = next_of is f.next }) below h

  item_ends :
      (i : Item) (vs : List Value) (f : ShownFrame) (below : List Value) → f.operands ≡ below ++ reverse vs
      → EndsWith (item_innermost vs i) (item_shown f i)
  item_ends (plain k o) vs f below h = (record f { next = Some k }, [], below, refl, h)
  item_ends (label n k g t) vs f below h = tree_ends t (record f { labels = k ∷ f.labels })
  item_ends (frame n callee ls t) vs f below h =
      ends_before (innermost t) (tree_shown (bare_frame callee ls) t) (f ∷ []) (tree_ends t (bare_frame callee ls))
  item_ends (enter taken n k first g os) vs f below h = (f, [], below, refl, h)
  item_ends (invoke callee) vs f below h = (f, [], below, refl, h)
  item_ends (branch k) vs f below h = (f, [], below, refl, h)
  item_ends ret vs f below h = (f, [], below, refl, h)

pub shown_ends : (t : Tree) (x : Next) → tree_next None t ≡ Some x → EndsWith (innermost t) (shown (running t))
shown_ends (seq vs done) x h = cc
shown_ends (seq vs (more (plain k o) is)) x h = cc
shown_ends (seq vs (more (label n k g t) is)) x h = shown_ends t x h
shown_ends (seq vs (more (frame n callee ls t) is)) x h = tree_ends t (bare_frame callee ls)
shown_ends (seq vs (more (enter taken n k first g os) is)) x h = cc
shown_ends (seq vs (more (invoke callee) is)) x h = cc
shown_ends (seq vs (more (branch k) is)) x h = cc
shown_ends (seq vs (more ret is)) x h = cc

-- ---- the first frame

-- a function that has just been called, outside all others
abbrev begun : (arity func : ℕ) (zeros : List Value) (o : Op) (os : Ops) → Tree
begun n func zeros o os = seq [] (more (frame n func zeros (seq [] (items_of 0 (next o os)))) done)

called :
    (p : Program) (env : Env) (func : ℕ) (t : FuncType) (zeros : List Value) (o : Op) (os : Ops) (k : ℕ)
    → to env (seq (drop k [])
    (more (frame (length t.results) func (reverse (take k []) ++ zeros) (seq [] (items_of 0 (next o os)))) done))
    ≡ to env (begun (length t.results) func zeros o os)
called p env func t zeros o os zero = refl
called p env func t zeros o os (suc k) = refl

fits : (n func : ℕ) (zeros : List Value) (o : Op) (os : Ops) → length zeros ≤ max_values
    → limited (begun n func zeros o os) ≡ running (begun n func zeros o os)
fits n func zeros o os few =
    let frames_are = plain_frames 0 (next o os) in
    let values_are = plain_values 0 (next o os) in
    within (begun n func zeros o os) (omega (arith, frames_are)) (omega (arith, values_are, few))

-- one reduction more, if the next one is administrative
abbrev onward : Program → Configuration → Configuration
onward p c = if is_settled c.state then c else step p c

pub first_shown :
    (p : Program) (r : Store) (func : ℕ) (t : FuncType) (zeros : List Value) (o : Op) (os : Ops)
    → slice_get p.functions func ≡ Some (own t zeros (next o os)) → length zeros ≤ max_values
    → shown (settled p (record { store = r; state = running (seq [] (more (invoke func) done)) })).state
    ≡ record { func = func; next = Some 0; labels = []; locals = zeros; operands = [] } ∷ []
first_shown p r func t zeros o os is few =
    let env : Env = record { store = r; locals = [] } in
    let is_called : call_function p env [] func (slice_get p.functions func) done
    ≡ to env (begun (length t.results) func zeros o os) =
    ap (λ (f : Option Function). call_function p env [] func f done) is
    ∙ called p env func t zeros o os (length t.params) in
    ap (λ (x : Reduced). shown (onward p (of_reduced x)).state) is_called
    ∙ ap (λ (x : State). shown (onward p (record { store = r; state = x })).state)
    (fits (length t.results) func zeros o os few)

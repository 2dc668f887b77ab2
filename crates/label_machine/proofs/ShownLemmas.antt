-- Labels that have the outermost first, as the open blocks of a level, which have the innermost first.
use Rattle.std.proofs.Common.{◌≡◌, ℕ, ◌<◌, Result, Ok, Err, OnOk, Option, Some, length, List, [], ◌∷◌, ◌++◌, map, reverse, refl, sym, ap, ◌∙◌, arith}
use Rattle.std.specs.declared.alloc.AllocError.{AllocError}
use Rattle.std.proofs.lemmas.List.{append_assoc, append-nil, reverse-append, reverse-reverse, map-append}
use Rattle.wasm_ast.specs.declared.values.Value.{Value}
use Rattle.wasm_ast.specs.declared.module.Module.{Module}
use Rattle.oci_config.specs.declared.process.ProcessConfig.{ProcessConfig}
use Rattle.wasm_ast.specs.declared.shown.ShownFrame.{ShownFrame}
use Rattle.step_machine.specs.declared.ends.End.{End}
use Rattle.step_machine.specs.Configuration.{seq, done, more, running, exited, trapped, stuck, Configuration, items_of}
use Rattle.step_machine.specs.Configuration.{State as State_}
use Rattle.step_machine.specs.Instantiation.{ended, after}
use Rattle.step_machine.specs.Shown.{next_of, shown}
use Rattle.step_machine.specs.Inside.Levels.{Open, below_all}
use Rattle.step_machine.specs.Inside.ShownLevels.{level_frame}
use Rattle.step_machine.proofs.ShownLevels.{shown_levels}
use Rattle.wasm_ast.specs.declared.instr.Instr.{Instr}
use Rattle.label_machine.specs.declared.label.Target.{Target}
use Rattle.label_machine.specs.declared.label.Target.TheVariants.{After, Again}
use Rattle.label_machine.specs.declared.label.Label.{Label}
use Rattle.label_machine.specs.declared.machine.State.{State}
use Rattle.label_machine.specs.declared.machine.State.TheVariants.{Going, Ended}
use Rattle.label_machine.specs.Inside.View.{ops_in, looped, opened, open_of, level_of}
use Rattle.label_machine.specs.Inside.Runs.{levels, tail_from}
use Rattle.label_machine.specs.Inside.Reached.{Reached}

abbrev pub opens_of : List Label → List Open
opens_of labels = map open_of (reverse labels)

-- the innermost is the last
pub innermost_first :
    {A B : Type 0} (f : A → B) (xs : List A) (x : A) → map f (reverse (xs ++ x ∷ [])) ≡ f x ∷ map f (reverse xs)
innermost_first f xs x = ap (map f) (reverse-append xs (x ∷ []))

-- the outermost is the first
pub outermost_last :
    {A B : Type 0} (f : A → B) (x : A) (xs : List A) → map f (reverse (x ∷ xs)) ≡ map f (reverse xs) ++ f x ∷ []
outermost_last f x xs = ap (map f) (reverse-append (x ∷ []) xs) ∙ map-append f (reverse xs) (x ∷ [])

below_append : (os : List Open) (o : Open) → below_all (os ++ o ∷ []) ≡ below_all os ++ o.below
below_append [] o = append-nil o.below
below_append (x ∷ os) o =
    ap (λ (vs : List Value). x.below ++ vs) (below_append os o) ∙ sym (append_assoc x.below (below_all os) o.below)

looped_below : (n k : ℕ) (below : List Value) (is : List Instr) → (looped n k below is).below ≡ below
looped_below n k below [] = refl
looped_below n k below (i ∷ is) = refl

opened_below : (n k : ℕ) (below : List Value) (t : Target) → (opened n k below t).below ≡ below
opened_below n k below (After a) = refl
opened_below n k below (Again is) = looped_below n k below is.now

looped_place : (n k : ℕ) (below : List Value) (is : List Instr) → (looped n k below is).place ≡ k
looped_place n k below [] = refl
looped_place n k below (i ∷ is) = refl

opened_place : (n k : ℕ) (below : List Value) (t : Target) → (opened n k below t).place ≡ k
opened_place n k below (After a) = refl
opened_place n k below (Again is) = looped_place n k below is.now

pub open_place : (l : Label) → (open_of l).place ≡ l.place
open_place l = opened_place l.arity l.place l.below l.target

-- the operands below the outermost block come first
pub outermost_operands :
    (l : Label) (inner : List Label) (items : List Value) → reverse items ≡ l.below
    → reverse (below_all (opens_of (l ∷ inner))) ≡ items ++ reverse (below_all (opens_of inner))
outermost_operands l inner items is =
    ap (λ (os : List Open). reverse (below_all os)) (outermost_last open_of l inner)
    ∙ (ap (reverse {A = Value}) (below_append (opens_of inner) (open_of l))
    ∙ (reverse-append (below_all (opens_of inner)) (open_of l).below
    ∙ ap (λ (vs : List Value). vs ++ reverse (below_all (opens_of inner)))
    (ap (reverse {A = Value}) (opened_below l.arity l.place l.below l.target ∙ sym is) ∙ reverse-reverse items)))

-- the operands below the outermost of these labels, and then those below the others
pub more_below :
    (r : Result (Unit {0}) AllocError) (labels : List Label) (l : Label) (inner : List Label)
    (items before mid now : List Value)
    → labels ≡ l ∷ inner → reverse items ≡ l.below → mid ≡ before ++ items
    → OnOk r (now ≡ mid ++ reverse (below_all (opens_of inner)))
    → OnOk r (now ≡ before ++ reverse (below_all (opens_of labels)))
more_below (Err e) labels l inner items before mid now are is mids h = h
more_below (Ok u) labels l inner items before mid now are is mids h =
    h
    ∙ (ap (λ (vs : List Value). vs ++ reverse (below_all (opens_of inner))) mids
    ∙ (append_assoc before items (reverse (below_all (opens_of inner)))
    ∙ (ap (λ (vs : List Value). before ++ vs) (sym (outermost_operands l inner items is))
    ∙ ap (λ (ls : List Label). before ++ reverse (below_all (opens_of ls))) (sym are))))

-- instructions that are there are next
pub first_is_next :
    (place : ℕ) (is : List Instr) (outside : Option ℕ) → 0 < length is
    → Some place ≡ next_of (items_of place (ops_in is)) outside
first_is_next place [] outside h = absurd (nothing h)
  where
    nothing : 0 < 0 → ⊥
    nothing g = omega (arith, g)
first_is_next place (i ∷ is) outside h = refl

-- what is shown of a state that is reached
abbrev pub frames_of : State → List ShownFrame
frames_of (Going x) = map level_frame (levels x)
frames_of (Ended e s) = []

ends_with_none : (s : State_) (e : End) → ended s ≡ Some e → shown s ≡ []
ends_with_none (running (seq vs done)) e h = refl
ends_with_none (running (seq vs (more i is))) e h = cc
ends_with_none (exited n) e h = refl
ends_with_none (trapped t) e h = refl
ends_with_none stuck e h = cc

pub shown_by :
    (m : Module) (p : ProcessConfig) (n : ℕ) (s : State) → Reached m p n s → shown (after m p n).state ≡ frames_of s
shown_by m p n (Going x) h =
    ap (λ (c : Configuration). shown c.state) h.0
    ∙ shown_levels (level_of x.top) (map level_of x.callers) (tail_from x.pending)
shown_by m p n (Ended e s) h = ends_with_none (after m p n).state e h.0.ended

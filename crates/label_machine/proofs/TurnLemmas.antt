-- What a turn makes of the machine's data, by what its instruction comes to.
use Rattle.std.proofs.Common.{◌≡◌, ℕ, zero, suc, ◌+◌, ◌<◌, ◌≤◌, List, [], ◌∷◌, ◌++◌, map, take, drop, length, append_assoc, Option, None, true, false, subst, refl, sym, ap, ◌∙◌, inl, inr, arith}
use Rattle.std.specs.Prelude.{◌⊎◌}
use Rattle.std.proofs.lemmas.List.{take-append-drop}
use Rattle.wasm_ast.specs.declared.values.Value.{Value}
use Rattle.wasm_ast.specs.declared.trap.Trap.{Trap}
use Rattle.wasm_ast.specs.declared.trap.Trap.TheVariants as trap
use Rattle.wasm_ast.specs.declared.values.Value.TheVariants.{I32, I64}
use Rattle.wasm_ast.specs.declared.instr.BlockType.{BlockType}
use Rattle.wasm_ast.specs.declared.values.FuncType.{FuncType}
use Rattle.wasm_ast.specs.Types.{block_type}
use Rattle.wasm_ast.specs.Syntax.{Op, block, loop, if', Ops, next, count, ops_count}
use Rattle.step_machine.specs.Limits.{max_frames, max_values}
use Rattle.step_machine.specs.Program.{Program}
use Rattle.step_machine.specs.Configuration.{Store, Target, onward, again, Items, done, more, Item, enter, items_of, State, running, trapped, stuck, Configuration, is_settled, items_values, items_frames}
use Rattle.step_machine.specs.Configuration.{frames as frames_in, values as values_of_tree}
use Rattle.step_machine.specs.Effects.{Env, Effect, becomes, halts, enter_block, enter_loop, choose, effect}
use Rattle.step_machine.specs.Effects.{no_rule as no_effect}
use Rattle.step_machine.specs.Reduction.{Reduced, by_effect, of_reduced}
use Rattle.step_machine.specs.Turns.{settled, turn}
use Rattle.step_machine.specs.Inside.Levels.{Open, Level, tree_with, tree_of, below_all, all_values}
use Rattle.step_machine.proofs.LevelSettling.{conf, enters, too_much}
use Rattle.step_machine.proofs.LevelReductions.{env, level_to, values_with, frames_with}
use Rattle.step_machine.proofs.LevelTurns.{turn_gives, turn_exhausts, turn_becomes, turn_halts}
use Rattle.label_machine.specs.declared.effect.Effect.{Effect as Answer}
use Rattle.label_machine.specs.declared.effect.Effect.TheVariants as answer
use Rattle.label_machine.specs.declared.run.Run.{Run}
use Rattle.label_machine.specs.declared.run.Doing.{Doing}
use Rattle.label_machine.specs.declared.run.Doing.TheVariants.{Next}
use Rattle.label_machine.specs.Inside.View.{opened, open_of, level_of}
use Rattle.label_machine.specs.Inside.Effects.{effect_of, may_change, HasNoI32}
use Rattle.label_machine.specs.Inside.Turns.{env_of, Does, HasCounts, Enters}
use Rattle.label_machine.specs.declared.label.Target.{Target as LabelTarget}
use Rattle.label_machine.specs.Inside.Runs.{store_of, items_for, tail_from, config, configured, about_to, IsWithin, IsBeyond, values, frames, IsInvalid, no_rule, MayBePending, IsOf, LeadsTo, Limited}
use Rattle.label_machine.specs.declared.run.Step.{Step}
use Rattle.label_machine.proofs.SettleLemmas.{config_is, same_levels, fits_in}
use Rattle.label_machine.proofs.CallLemmas.{limited_leads}

-- what takes the place of an instruction passes a limit
turn_over :
    (p : Program) (r : Store) (tail : Items) (l : Level) (ls : List Level) (o : Op) (os : Ops) (vs : List Value)
    (i : Item) → effect p (env p r l.locals) l.operands l.place o ≡ becomes vs i
    → (max_frames < length (l ∷ ls)) ⊎ (max_values < all_values (record l { operands = vs } ∷ ls))
    → turn p (conf r (running (tree_of (record l { rest = next o os }) ls tail))) ≡ conf r (trapped trap.Exhausted)
turn_over p r tail l ls o os vs i h over =
    let before : Level = record l { rest = next o os } in
    let after : Level = record l { operands = vs; place = l.place + count o; rest = os } in
    let items = more i (items_of (l.place + count o) os) in
    let v = values_with after ls tail items in
    let f = frames_with after ls tail items in
    let reduces = ap (λ (x : Effect). by_effect (env p r l.locals) x (items_of (l.place + count o) os)) h in
    ap (λ (x : Reduced). settled p (of_reduced x))
    (level_to p before ls tail r r l.locals vs (items_of l.place (next o os)) items refl reduces)
    ∙ ap (λ s. settled p (conf r s))
    (too_much p r tail (tree_with after ls tail items)
    (past over (frames_in (tree_with after ls tail items)) (values_of_tree (tree_with after ls tail items))
    (omega (arith, f)) (omega (arith, v))))
  where
    past :
        (max_frames < length (l ∷ ls)) ⊎ (max_values < all_values (record l { operands = vs } ∷ ls)) → (fs ws : ℕ)
        → length (l ∷ ls) ≤ fs → all_values (record l { operands = vs } ∷ ls) ≤ ws
        → (max_frames < fs) ⊎ (max_values < ws)
    past (inl a) fs ws g k = inl (omega (arith, a, g))
    past (inr a) fs ws g k = inr (omega (arith, a, k))

module _ (p : Program) (x y : Run) (place : ℕ) (o : Op) (e : Answer) (d : Does p x y place o e) where
  abbrev r : Store
  r = store_of x.store

  abbrev r' : Store
  r' = store_of y.store

  abbrev ls : List Level
  ls = map level_of x.callers

  abbrev os : Ops
  os = (level_of x.top).rest

  -- the frame before the instruction
  abbrev l : Level
  l = record (level_of x.top) { place = place }

  -- and after it
  abbrev l' : Level
  l' = record l { locals = y.top.locals.items; operands = y.top.operands; place = place + count o; rest = os }

  is_after : level_of y.top ≡ l'
  is_after =
      d.top
      ∙ ap (λ k. record l { locals = y.top.locals.items; operands = y.top.operands; place = k; rest = os }) d.counted

  abbrev after_y : Items
  after_y = tail_from y.pending

  starts : turn p (about_to x place o)
      ≡ turn p (conf r (running (tree_with (record l { rest = next o os }) ls after_y
      (items_of place (next o os)))))
  starts =
      ap (λ (tl : Items). turn p (conf r (running (tree_with (record l { rest = next o os }) ls tl
      (items_of place (next o os)))))) (sym (ap tail_from d.pending))

  pub done_goes : e ≡ answer.Done → IsWithin y → turn p (about_to x place o) ≡ settled p (config y Next)
  done_goes is within =
      let fit = fits_in y r' l' ls is_after d.callers refl p within in
      starts
      ∙ (turn_gives p r after_y l ls o os r' y.top.locals.items y.top.operands
      (d.effect ∙ ap (λ a. effect_of a (env_of y) y.top.operands) is) fit
      ∙ ap (settled p) (config_is y r' l' ls is_after d.callers refl (λ k. items_of k.place k.rest)))

  pub done_exhausts :
      e ≡ answer.Done → IsWithin x → IsBeyond y
      → turn p (about_to x place o) ≡ configured y.store (trapped trap.Exhausted)
  done_exhausts is within beyond =
      starts
      ∙ turn_exhausts p r after_y l ls o os r' y.top.locals.items y.top.operands
      (d.effect ∙ ap (λ a. effect_of a (env_of y) y.top.operands) is) (over beyond)
    where
      over : IsBeyond y → max_values < all_values (l' ∷ ls)
      over (values v) = subst (λ ks. max_values < all_values ks) (same_levels y r' l' ls is_after d.callers refl) v
      over (frames f) =
          let g =
          subst (λ (ks : List Level). max_frames < length ks) (same_levels y r' l' ls is_after d.callers refl) f in
          let w = within.frames in
          absurd (omega (arith, g, w))

  -- an administrative item takes its place
  pub becomes_goes :
      (i : Item) (doing : Doing) → may_change e ≡ false
      → ((en : Env) (vs : List Value) → effect_of e en vs ≡ becomes vs i)
      → ((k : Level) → items_for doing k ≡ more i (items_of k.place k.rest)) → items_values (more i done) ≡ 0
      → items_frames (more i done) ≡ 0 → IsWithin y
      → turn p (about_to x place o) ≡ settled p (config y doing)
  becomes_goes i doing not_done is items nv nf within =
      let kept = d.kept not_done in
      let same : level_of y.top ≡ record l' { locals = x.top.locals.items } =
      is_after ∙ ap (λ (vs : List Value). record l' { locals = vs }) kept.1 in
      let fit = fits_in y r (record l' { locals = x.top.locals.items }) ls same d.callers kept.0 p within in
      starts
      ∙ (turn_becomes p r after_y l ls o os y.top.operands i (d.effect ∙ is (env_of y) y.top.operands) nv nf fit
      ∙ (ap
      (λ (js : Items). settled p
      (conf r (running (tree_with (record l' { locals = x.top.locals.items }) ls after_y js))))
      (sym (items (record l' { locals = x.top.locals.items })))
      ∙ ap (settled p)
      (config_is y r (record l' { locals = x.top.locals.items }) ls same d.callers kept.0 (items_for doing))))

  -- or passes the limit of values
  becomes_over :
      (i : Item) → may_change e ≡ false → ((en : Env) (vs : List Value) → effect_of e en vs ≡ becomes vs i)
      → IsWithin x → IsBeyond y → turn p (about_to x place o) ≡ configured y.store (trapped trap.Exhausted)
  becomes_over i not_done is within beyond =
      let kept = d.kept not_done in
      let same : level_of y.top ≡ record l' { locals = x.top.locals.items } =
      is_after ∙ ap (λ (vs : List Value). record l' { locals = vs }) kept.1 in
      starts
      ∙ (turn_over p r after_y l ls o os y.top.operands i (d.effect ∙ is (env_of y) y.top.operands)
      (over same kept.0 beyond)
      ∙ ap (λ (q : Store). conf q (trapped trap.Exhausted)) (sym kept.0))
    where
      over :
          level_of y.top ≡ record l' { locals = x.top.locals.items } → store_of y.store ≡ r → IsBeyond y
          → (max_frames < length (l ∷ ls)) ⊎ (max_values < all_values (record l { operands = y.top.operands } ∷ ls))
      over same store (values v) =
          inr (subst (λ ks. max_values < all_values ks)
          (same_levels y r (record l' { locals = x.top.locals.items }) ls same d.callers store) v)
      over same store (frames f) =
          inl (subst (λ (ks : List Level). max_frames < length ks)
          (same_levels y r (record l' { locals = x.top.locals.items }) ls same d.callers store) f)

  halts_so : (s : State) → effect p (env_of x) x.top.operands place o ≡ halts s → is_settled s ≡ true
      → turn p (about_to x place o) ≡ conf r s
  halts_so s h over = starts ∙ turn_halts p r after_y l ls o os s h over

  pub traps_so :
      (t : Trap) → e ≡ answer.Traps t → turn p (about_to x place o) ≡ configured y.store (trapped t)
  traps_so t is =
      let kept = d.kept (ap may_change is) in
      halts_so (trapped t) (d.effect ∙ ap (λ a. effect_of a (env_of y) y.top.operands) is) refl
      ∙ ap (λ (q : Store). conf q (trapped t)) (sym kept.0)

  pub stuck_so : e ≡ answer.Stuck → IsInvalid (turn p (about_to x place o))
  stuck_so is =
      no_rule
      (ap (λ (c : Configuration). c.state)
      (halts_so stuck (d.effect ∙ ap (λ a. effect_of a (env_of y) y.top.operands) is) refl))

  -- a call, a branch or a return is on its way
  pub on_its_way :
      (i : Item) (doing : Doing) → may_change e ≡ false
      → ((en : Env) (vs : List Value) → effect_of e en vs ≡ becomes vs i)
      → ((k : Level) → items_for doing k ≡ more i (items_of k.place k.rest)) → items_values (more i done) ≡ 0
      → items_frames (more i done) ≡ 0 → IsWithin x → (s : Step) → IsOf p y.pending y.store → Limited y doing s
      → LeadsTo p (turn p (about_to x place o)) s
  on_its_way i doing not_done is items nv nf within s of limited =
      limited_leads p (turn p (about_to x place o)) y doing s limited of
      (becomes_goes i doing not_done is items nv nf) (becomes_over i not_done is within)

-- ---- a body is entered

abbrev pub with_operands : Run → List Value → Run
with_operands x vs = record x { top = record x.top { operands = vs } }

module _ (p : Program) (x : Run) (vs : List Value) where
  module _ (y : Run) (place : ℕ) (o : Op) (m n first : ℕ) (g : LabelTarget) (t : Target) (body : Ops)
      (counted : x.top.ahead.place ≡ place + count o) (e : Enters (with_operands x vs) y m n place g first body)
    where
      abbrev store_x : Store
      store_x = store_of x.store

      abbrev others : List Level
      others = map level_of x.callers

      abbrev opens_x : List Open
      opens_x = map open_of x.top.labels

      abbrev rest_x : Ops
      rest_x = (level_of x.top).rest

      abbrev at_it : Level
      at_it = record (level_of x.top) { place = place }

      abbrev past_it : Level
      past_it = record at_it { operands = vs; place = place + count o; rest = rest_x }

      abbrev around_body : (next_place : ℕ) → Open
      around_body k = record {
        arity = n;
        place = place;
        target = t;
        below = drop m vs;
        next_place = k;
        rest = rest_x;
      }

      abbrev in_body : Level
      in_body = record past_it {
        opens = around_body (place + count o) ∷ opens_x;
        operands = take m vs;
        place = first;
        rest = body;
      }

      abbrev tail_y : Items
      tail_y = tail_from y.pending

      -- what the body takes was above what stays below its label
      same_operands : take m vs ++ (drop m vs ++ below_all opens_x) ≡ vs ++ below_all opens_x
      same_operands =
          sym (append_assoc (take m vs) (drop m vs) (below_all opens_x))
          ∙ ap (λ (us : List Value). us ++ below_all opens_x) (take-append-drop m vs)

      pub enters_body : opened n place (drop m vs) g ≡ around_body x.top.ahead.place
          → effect p (env_of x) x.top.operands place o ≡ becomes vs (enter m n place first t body)
          → IsWithin y → turn p (about_to x place o) ≡ settled p (config y Next)
      enters_body open_is eff within =
          let inside : level_of y.top ≡ in_body =
          e.top
          ∙ ap (λ (b : Open). record in_body { opens = b ∷ opens_x })
          (open_is ∙ ap around_body counted) in
          let fit = fits_in y store_x in_body others inside e.callers e.store p within in
          let before =
          subst (λ (us : List Value). (length x.top.locals.items + length us) + all_values others ≤ max_values)
          same_operands fit.values in
          ap (λ (tl : Items). turn p (conf store_x (running (tree_with (record at_it { rest = next o rest_x }) others tl
          (items_of place (next o rest_x)))))) (sym (ap tail_from e.pending))
          ∙ (turn_becomes p store_x tail_y at_it others o rest_x vs (enter m n place first t body) eff refl refl
          (record { values = before; frames = fit.frames; no_values = fit.no_values; no_frames = fit.no_frames })
          ∙ (enters p store_x tail_y past_it others m n place first t body fit
          ∙ ap (settled p)
          (config_is y store_x in_body others inside e.callers e.store (λ k. items_of k.place k.rest))))

      enters_over : effect p (env_of x) x.top.operands place o ≡ becomes vs (enter m n place first t body)
          → opened n place (drop m vs) g ≡ around_body x.top.ahead.place → IsBeyond y
          → turn p (about_to x place o) ≡ configured y.store (trapped trap.Exhausted)
      enters_over eff open_is beyond =
          let inside : level_of y.top ≡ in_body =
          e.top
          ∙ ap (λ (b : Open). record in_body { opens = b ∷ opens_x })
          (open_is ∙ ap around_body counted) in
          ap (λ (tl : Items). turn p (conf store_x (running (tree_with (record at_it { rest = next o rest_x }) others tl
          (items_of place (next o rest_x)))))) (sym (ap tail_from e.pending))
          ∙ (turn_over p store_x tail_y at_it others o rest_x vs (enter m n place first t body) eff (over inside beyond)
          ∙ ap (λ (q : Store). conf q (trapped trap.Exhausted)) (sym e.store))
        where
          over :
              level_of y.top ≡ in_body → IsBeyond y
              → (max_frames < length (at_it ∷ others))
              ⊎ (max_values < all_values (record at_it { operands = vs } ∷ others))
          over inside (values v) =
              let w =
              subst (λ ks. max_values < all_values ks) (same_levels y store_x in_body others inside e.callers e.store) v
              in
              inr
              (subst (λ (us : List Value). max_values < (length x.top.locals.items + length us) + all_values others)
              same_operands w)
          over inside (frames f) =
              inl
              (subst (λ (ks : List Level). max_frames < length ks)
              (same_levels y store_x in_body others inside e.callers e.store) f)

      -- with what an enter answers
      pub leads_into : opened n place (drop m vs) g ≡ around_body x.top.ahead.place
          → effect p (env_of x) x.top.operands place o ≡ becomes vs (enter m n place first t body)
          → (s : Step) → Limited y Next s → IsOf p x.pending x.store → LeadsTo p (turn p (about_to x place o)) s
      leads_into open_is eff s limited of =
          limited_leads p (turn p (about_to x place o)) y Next s limited
          (record {
            process = e.process ∙ of.process;
            invoked_later = subst (MayBePending p) (sym e.pending) of.invoked_later;
          }) (enters_body open_is eff) (enters_over eff open_is)

-- a block that has no type has no rule
pub no_block :
    (p : Program) (en : Env) (vs : List Value) (place : ℕ) (b : BlockType) (body : Ops) → block_type p.types b ≡ None
    → effect p en vs place (block b body) ≡ no_effect
no_block p en vs place b body none = ap (λ (f : Option FuncType). enter_block vs place (suc place) f body) none

pub no_loop :
    (p : Program) (en : Env) (vs : List Value) (place : ℕ) (b : BlockType) (body : Ops) → block_type p.types b ≡ None
    → effect p en vs place (loop b body) ≡ no_effect
no_loop p en vs place b body none = ap (λ (f : Option FuncType). enter_loop vs place f (loop b body) body) none

pub no_if :
    (p : Program) (en : Env) (vs : List Value) (place : ℕ) (b : BlockType) (first second : Ops)
    → block_type p.types b ≡ None → effect p en vs place (if' b first second) ≡ no_effect
no_if p en vs place b first second none = ap (λ (f : Option FuncType). choose vs place f first second) none ∙ untyped vs
  where
    untyped : (us : List Value) → choose us place None first second ≡ no_effect
    untyped [] = refl
    untyped (I32 zero ∷ us) = refl
    untyped (I32 (suc c) ∷ us) = refl
    untyped (I64 c ∷ us) = refl

-- and neither has an if without a condition
pub chooses_none :
    (p : Program) (en : Env) (vs : List Value) (place : ℕ) (b : BlockType) (first second : Ops) → HasNoI32 vs
    → effect p en vs place (if' b first second) ≡ no_effect
chooses_none p en [] place b first second h = refl
chooses_none p en (I32 c ∷ vs) place b first second h = absurd h
chooses_none p en (I64 c ∷ vs) place b first second h = refl

-- where an instruction has no rule, no valid module comes
pub no_rule_for :
    (p : Program) (x : Run) (place : ℕ) (o : Op) → effect p (env_of x) x.top.operands place o ≡ no_effect
    → IsInvalid (turn p (about_to x place o))
no_rule_for p x place o h =
    no_rule
    (ap (λ (c : Configuration). c.state)
    (turn_halts p (store_of x.store) (tail_from x.pending) (record (level_of x.top) { place = place })
    (map level_of x.callers) o (level_of x.top).rest stuck h refl))

-- what a block comes to, by the type that was found and the place of its first instruction
module _ (found : Option FuncType) (m n : ℕ) (c : HasCounts found m n) (vs : List Value) (place : ℕ) (body : Ops) where
  enters_with :
      {i j k k' : ℕ} {t : Target} → i ≡ m → j ≡ n → k ≡ k'
      → becomes vs (enter i j place k t body) ≡ becomes vs (enter m n place k' t body)
  enters_with {i = i} {j = j} {k = k} {k' = k'} {t = t} a b d =
      ap (λ q. becomes vs (enter q j place k t body)) a
      ∙ (ap (λ q. becomes vs (enter m q place k t body)) b ∙ ap (λ q. becomes vs (enter m n place q t body)) d)

  pub block_enters :
      (first start : ℕ) → first ≡ start
      → enter_block vs place first found body ≡ becomes vs (enter m n place start onward body)
  block_enters first start there =
      ap (λ (f : Option FuncType). enter_block vs place first f body) c.is
      ∙ enters_with (sym c.takes) (sym c.gives) there

-- and a loop, whose label takes its parameters
module _ (found : Option FuncType) (m n : ℕ) (c : HasCounts found m n) (vs : List Value) (place : ℕ) (body : Ops) where
  pub loop_enters :
      (itself : Op) (start : ℕ) → suc place ≡ start
      → enter_loop vs place found itself body ≡ becomes vs (enter m m place start (again itself) body)
  loop_enters itself start there =
      ap (λ (f : Option FuncType). enter_loop vs place f itself body) c.is
      ∙ (ap (λ q. becomes vs (enter q q place (suc place) (again itself) body)) (sym c.takes)
      ∙ ap (λ q. becomes vs (enter m m place q (again itself) body)) there)

-- an if enters one of its arms
pub chooses_then :
    (p : Program) (en : Env) (vs : List Value) (place c : ℕ) (b : BlockType) (first second : Ops) → 0 < c
    → effect p en (I32 c ∷ vs) place (if' b first second)
    ≡ enter_block vs place (suc place) (block_type p.types b) first
chooses_then p en vs place zero b first second h = absurd (omega (arith, h))
chooses_then p en vs place (suc c) b first second h = refl

pub chooses_else :
    (p : Program) (en : Env) (vs : List Value) (place : ℕ) (b : BlockType) (first second : Ops)
    → effect p en (I32 0 ∷ vs) place (if' b first second)
    ≡ enter_block vs place (suc place + ops_count first) (block_type p.types b) second
chooses_else p en vs place b first second = refl

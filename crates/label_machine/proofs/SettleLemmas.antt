-- What administrative reductions make of the machine's data.
use Rattle.std.proofs.Common.{◌≡◌, ◌==◌, true, false, ℕ, zero, suc, ◌<◌, ◌≤◌, List, [], ◌∷◌, ◌++◌, map, take, length, Option, Some, Ok, Err, IfOk, subst, refl, sym, ap, ◌∙◌, arith}
use Rattle.std.specs.Prelude.{Result, option_to_list}
use Rattle.wasm_ast.specs.declared.values.Value.{Value}
use Rattle.wasm_ast.specs.declared.values.FuncType.{FuncType}
use Rattle.wasm_ast.specs.declared.module.Module.{Module}
use Rattle.oci_config.specs.declared.process.ProcessConfig.{ProcessConfig}
use Rattle.wasm_ast.specs.Syntax.{Ops}
use Rattle.wasm_ast.specs.View.{op_of}
use Rattle.step_machine.specs.Limits.{max_frames, max_values}
use Rattle.step_machine.specs.Program.{Program, program}
use Rattle.step_machine.specs.Configuration.{Store, seq, Items, done, more, invoke, branch, ret, items_of, running, stuck, Configuration, items_values, items_frames}
use Rattle.step_machine.specs.Reduction.{reduce, of_reduced}
use Rattle.step_machine.specs.Turns.{settled}
use Rattle.step_machine.specs.Inside.Levels.{Open, Level, framed_by, tree_with, tree_of, below_all, values_of, all_values}
use Rattle.step_machine.proofs.LevelSettling.{conf, Fits, label_end, branch_out, return_out, branch_onward, branch_again, frame_end, frame_returns, frame_branches}
use Rattle.step_machine.proofs.LevelSettling.{unsettled, is_unsettled, settled_stays}
use Rattle.step_machine.proofs.LevelReductions.{env, level_ends, waits_with}
use Rattle.std.proofs.lemmas.Bool.Decides.{nat_tests}
use Rattle.std.proofs.lemmas.List.{length-append, length-take}
use Rattle.wasm_ast.specs.declared.instr.Instr.{Instr}
use Rattle.label_machine.proofs.RoomLemmas.{below_is}
use Rattle.step_machine.proofs.FlatEnds.{tail_values, tail_frames}
use Rattle.step_machine.proofs.FlatOutermost.{outermost, outermost_invokes, outermost_end, outermost_returns, outermost_branches}
use Rattle.label_machine.specs.declared.run.Run.{Run}
use Rattle.label_machine.specs.declared.run.Step.{Step}
use Rattle.label_machine.specs.declared.run.Step.TheVariants.{Goes, Waits, Ends, Stuck}
use Rattle.label_machine.specs.declared.run.Doing.{Doing}
use Rattle.label_machine.specs.declared.run.Doing.TheVariants.{Next, Branches, Returns}
use Rattle.label_machine.specs.declared.label.Target.{Target}
use Rattle.label_machine.specs.declared.label.Target.TheVariants.{After, Again}
use Rattle.label_machine.specs.declared.label.Label.{Label}
use Rattle.label_machine.specs.declared.frame.Frame.{Frame}
use Rattle.label_machine.specs.declared.store.Store.{Store as StoreValue}
use Rattle.step_machine.specs.declared.ends.End.{End}
use Rattle.step_machine.specs.declared.ends.End.TheVariants as end
use Rattle.step_machine.specs.Instantiation.{ended}
use Rattle.label_machine.specs.Inside.View.{ops_in, looped, opened, open_of, goes_to, level_of}
use Rattle.label_machine.specs.Inside.Callees.{IsCallOf}
use Rattle.label_machine.specs.Inside.Runs.{store_of, levels, items_for, tail_from, config, configured, IsWithin, HasNext, IsSettled, end_state, HasEnded, IsInvalid, no_rule, Leads, GivesWithin, given}

-- what is so of an answer follows from what is known of it
pub on_ok :
    {A : Type 0} {B : Type 0} (P : A → Type 0) (Q : A → Type 0) (r : Result A B) → ((a : A) → P a → Q a)
    → IfOk r P → IfOk r Q
on_ok P Q (Ok a) f h = f a h
on_ok P Q (Err b) f h = h

pub fits :
    (p : Program) (r : Store) (l : Level) (ls : List Level) (pending : Option ℕ) → all_values (l ∷ ls) ≤ max_values
    → length (l ∷ ls) ≤ max_frames → Fits p r l ls (tail_from pending)
fits p r l ls pending v f = record {
  values = v;
  frames = f;
  no_values = tail_values (option_to_list pending);
  no_frames = tail_frames (option_to_list pending);
}

-- an end is that of its state
pub ends_so : (e : End) → ended (end_state e) ≡ Some e
ends_so end.Returned = refl
ends_so (end.Exited n) = refl
ends_so (end.Trapped t) = refl

pub ends_at : (c : Configuration) (e : End) (s : StoreValue) → c ≡ configured s (end_state e) → HasEnded c e s
ends_at c e s h = record {
  store = ap (λ (d : Configuration). d.store) h;
  ended = ap (λ (d : Configuration). ended d.state) h ∙ ends_so e;
}

-- at the end of a sequence
pub at_end :
    (x : Run) → x.top.ahead.rest.now ≡ []
    → config x Next
    ≡ conf (store_of x.store) (running (tree_with (level_of x.top) (map level_of x.callers) (tail_from x.pending) done))
at_end x none =
    ap (λ (os : Ops). conf (store_of x.store) (running (tree_with (level_of x.top) (map level_of x.callers)
    (tail_from x.pending) (items_of x.top.ahead.place os)))) (ap ops_in none)

-- the configuration of data, by their frames and store
module _ (x : Run) (r : Store) (l : Level) (ls : List Level) (top : level_of x.top ≡ l)
    (callers : map level_of x.callers ≡ ls) (store : store_of x.store ≡ r) where
  abbrev tail : Items
  tail = tail_from x.pending

  pub config_is : (is : Level → Items) → conf r (running (tree_with l ls tail (is l)))
      ≡ conf (store_of x.store)
      (running (tree_with (level_of x.top) (map level_of x.callers) tail (is (level_of x.top))))
  config_is is =
      ap (λ (k : Level). conf r (running (tree_with k ls tail (is k)))) (sym top)
      ∙ (ap
      (λ (ks : List Level). conf r (running (tree_with (level_of x.top) ks tail (is (level_of x.top))))) (sym callers)
      ∙ ap
      (λ (q : Store). conf q (running (tree_with (level_of x.top) (map level_of x.callers) tail (is (level_of x.top)))))
      (sym store))

  pub same_levels : levels x ≡ l ∷ ls
  same_levels = ap (λ (k : Level). k ∷ map level_of x.callers) top ∙ ap (λ (ks : List Level). l ∷ ks) callers

  pub fits_in : (p : Program) → IsWithin x → Fits p r l ls tail
  fits_in p w =
      fits p r l ls x.pending (subst (λ ks. all_values ks ≤ max_values) same_levels w.values)
      (subst (λ (ks : List Level). length ks ≤ max_frames) same_levels w.frames)

-- a function is invoked outside all frames
pub begins :
    (m : Module) (pr : ProcessConfig) (r : Store) (func : ℕ) (t : FuncType) (x : Run) → t.params ≡ []
    → IsCallOf m func t [] (level_of x.top) → x.callers ≡ [] → store_of x.store ≡ r → IsWithin x
    → settled (program m pr) (conf r (running (seq [] (more (invoke func) (tail_from x.pending)))))
    ≡ settled (program m pr) (config x Next)
begins m pr r func t x none call alone same within =
    let p = program m pr in
    let l = outermost p r (tail_from x.pending) func t call.zeros call.body in
    let no_callers : map level_of x.callers ≡ [] = ap (map level_of) alone in
    let fit = fits_in x r l [] call.level no_callers same p within in
    outermost_invokes p r (tail_from x.pending) func t call.zeros call.body call.is none fit
    ∙ ap (settled p) (config_is x r l [] call.level no_callers same (λ k. items_of k.place k.rest))

-- the data before and after the innermost block is left: by its end, or by a branch or a return that goes further out
pub record Left (t : Frame) (b : Label) (bs : List Label) (x : Run) (r : Store) : Type 0 where
  pub labels : t.labels ≡ b ∷ bs
  pub top :
      level_of x.top ≡ record (level_of (record t { labels = bs })) {
        operands = t.operands ++ b.below;
        place = (open_of b).next_place;
        rest = (open_of b).rest;
      }
  pub store : store_of x.store ≡ r
  pub within : IsWithin x

module _ (p : Program) (t : Frame) (b : Label) (bs : List Label) (x : Run) (r : Store) (left : Left t b bs x r) where
  abbrev inner : Level
  inner = level_of (record t { labels = bs })

  abbrev out : Level
  out = record inner {
    operands = inner.operands ++ (open_of b).below;
    place = (open_of b).next_place;
    rest = (open_of b).rest;
  }

  abbrev others : List Level
  others = map level_of x.callers

  abbrev after_all : Items
  after_all = tail_from x.pending

  is_out : level_of x.top ≡ out
  is_out =
      left.top
      ∙ ap (λ (vs : List Value). record inner {
        operands = inner.operands ++ vs;
        place = (open_of b).next_place;
        rest = (open_of b).rest;
      }) (sym (below_is b))

  fit : Fits p r out others after_all
  fit = fits_in x r out others is_out refl left.store p left.within

  -- the frame before, about to run these items
  abbrev pub before : Items → Configuration
  before is = conf r (running (tree_with (level_of t) others after_all is))

  is_before : (is : Items)
      → before is
      ≡ conf r (running (tree_with (record inner { opens = open_of b ∷ map open_of bs }) others after_all is))
  is_before is =
      ap (λ cs. conf r (running (tree_with (level_of (record t { labels = cs })) others after_all is))) left.labels

  pub block_ends : settled p (before done) ≡ settled p (config x Next)
  block_ends =
      ap (settled p) (is_before done)
      ∙ (label_end p r after_all inner (open_of b) (map open_of bs) others fit
      ∙ ap (settled p) (config_is x r out others is_out refl left.store (λ k. items_of k.place k.rest)))

  pub branch_leaves :
      (k : ℕ) (is : Items) → settled p (before (more (branch (suc k)) is)) ≡ settled p (config x (Branches k))
  branch_leaves k is =
      ap (settled p) (is_before (more (branch (suc k)) is))
      ∙ (branch_out p r after_all inner (open_of b) (map open_of bs) others k is fit
      ∙ ap (settled p)
      (config_is x r out others is_out refl left.store (λ l. more (branch k) (items_of l.place l.rest))))

  pub return_leaves : (is : Items) → settled p (before (more ret is)) ≡ settled p (config x Returns)
  return_leaves is =
      ap (settled p) (is_before (more ret is))
      ∙ (return_out p r after_all inner (open_of b) (map open_of bs) others is fit
      ∙ ap (settled p) (config_is x r out others is_out refl left.store (λ l. more ret (items_of l.place l.rest))))

-- operands that are let go are within the limits, and so are those below a label
pub pops_within :
    (x : Run) (b : Label) (bs : List Label) (f : Frame) (us : List Value) (k : ℕ) (os : Ops)
    → length us ≤ length x.top.operands → x.top.labels ≡ b ∷ bs
    → level_of f
    ≡ record (level_of (record x.top { labels = bs })) { operands = us ++ b.below; place = k; rest = os }
    → IsWithin x → IsWithin (record x { top = f })
pops_within x b bs f us k os few labels is w =
    let rest = below_all (map open_of bs) in
    let v = w.values in
    let now = ap values_of is in
    let before = ap (λ cs. values_of (level_of (record x.top { labels = cs }))) labels in
    let same = ap (length {A = Value}) (below_is b) in
    let a = length-append (us ++ b.below) rest in
    let a2 = length-append us b.below in
    let c = length-append x.top.operands ((open_of b).below ++ rest) in
    let d = length-append (open_of b).below rest in
    record { values = omega (arith, v, now, before, same, a, a2, c, d, few); frames = w.frames }

-- a frame that ends gives no more than it has
pub gives_within :
    (x : Run) (vs : List Value) → length vs ≤ length x.top.operands → IsWithin x
    → GivesWithin vs (map level_of x.callers)
gives_within x vs few w =
    let v = w.values in
    let f = w.frames in
    let a = length-append x.top.operands (below_all (map open_of x.top.labels)) in
    record { values = omega (arith, v, a, few); frames = omega (arith, f) }

-- the frame that called is within the limits with what it is given
pub given_within :
    (x : Run) (vs : List Value) (k : Frame) (ks : List Level)
    → level_of x.top ≡ record (level_of k) { operands = vs ++ k.operands }
    → map level_of x.callers ≡ ks → GivesWithin vs (level_of k ∷ ks) → IsWithin x
given_within x vs k ks top callers w =
    let v = w.values in
    let f = w.frames in
    let now = ap values_of top in
    let others = ap all_values callers in
    let many = ap (length {A = Level}) callers in
    let a = length-append (vs ++ k.operands) (below_all (map open_of k.labels)) in
    let b = length-append vs k.operands in
    let c = length-append k.operands (below_all (map open_of k.labels)) in
    record {
      values = omega (arith, v, now, others, a, b, c);
      frames = omega (arith, f, many);
    }

-- the data before and after a branch to the innermost label
pub record Landed (t : Frame) (b : Label) (bs : List Label) (x : Run) (r : Store) : Type 0 where
  pub labels : t.labels ≡ b ∷ bs
  pub top :
      level_of x.top ≡ record (level_of (record t { labels = bs })) {
        operands = take b.arity t.operands ++ b.below;
        place = (goes_to b.place b.target).0;
        rest = (goes_to b.place b.target).1;
      }
  pub store : store_of x.store ≡ r
  pub within : IsWithin x

module _ (p : Program) (t : Frame) (b : Label) (bs : List Label) (x : Run) (r : Store)
    (landed : Landed t b bs x r) (is : Items) where
  abbrev within_it : Level
  within_it = level_of (record t { labels = bs })

  abbrev around : List Level
  around = map level_of x.callers

  abbrev later : Items
  later = tail_from x.pending

  abbrev landing : (n : ℕ) (vs : List Value) (place : ℕ) → Ops → Level
  landing n vs k os = record within_it { operands = take n t.operands ++ vs; place = k; rest = os }

  abbrev inside_label : Open → Configuration
  inside_label o =
      conf r (running (tree_with (record within_it { opens = o ∷ map open_of bs }) around later (more (branch 0) is)))

  lands_looped :
      (n k : ℕ) (vs : List Value) (ins : List Instr) → Fits p r (landing n vs k (ops_in ins)) around later
      → settled p (inside_label (looped n k vs ins))
      ≡ settled p (conf r (running (tree_of (landing n vs k (ops_in ins)) around later)))
  lands_looped n k vs [] fit = branch_onward p r later within_it (looped n k vs []) (map open_of bs) around is refl fit
  lands_looped n k vs (i ∷ ins) fit =
      branch_again p r later within_it (looped n k vs (i ∷ ins)) (map open_of bs) around is (op_of i) refl refl fit

  lands :
      (n k : ℕ) (vs : List Value) (g : Target) → Fits p r (landing n vs (goes_to k g).0 (goes_to k g).1) around later
      → settled p (inside_label (opened n k vs g))
      ≡ settled p (conf r (running (tree_of (landing n vs (goes_to k g).0 (goes_to k g).1) around later)))
  lands n k vs (After a) fit =
      branch_onward p r later within_it (opened n k vs (After a)) (map open_of bs) around is refl fit
  lands n k vs (Again ins) fit = lands_looped n k vs ins.now fit

  pub branch_lands :
      settled p (conf r (running (tree_with (level_of t) around later (more (branch 0) is))))
      ≡ settled p (config x Next)
  branch_lands =
      ap (λ cs. settled p
      (conf r (running (tree_with (level_of (record t { labels = cs })) around later (more (branch 0) is)))))
      landed.labels
      ∙ (lands b.arity b.place b.below b.target
      (fits_in x r (landing b.arity b.below (goes_to b.place b.target).0 (goes_to b.place b.target).1)
      around landed.top refl
      landed.store p landed.within)
      ∙ ap (settled p)
      (config_is x r (landing b.arity b.below (goes_to b.place b.target).0 (goes_to b.place b.target).1)
      around landed.top
      refl landed.store (λ k. items_of k.place k.rest)))

-- an instruction is next
pub waits_on :
    (p : Program) (x : Run) (i : Instr) (is : List Instr) → x.top.ahead.rest.now ≡ i ∷ is
    → settled p (config x Next) ≡ config x Next
waits_on p x i is h =
    let first =
    waits_with (level_of x.top) (map level_of x.callers) (tail_from x.pending) (items_for Next (level_of x.top)) in
    settled_stays p (config x Next) (rw (first, h) refl)

-- what settles as a configuration does leads where it does
pub leads_from : (p : Program) (c d : Configuration) (s : Step) → settled p c ≡ settled p d → Leads p d s → Leads p c s
leads_from p c d (Goes x doing) h g = (h ∙ g.0, g.1, g.2)
leads_from p c d (Waits x) h g = (h ∙ g.0, g.1, g.2, g.3)
leads_from p c d (Ends e store) h g =
    (subst (λ k. HasEnded k e store) (sym h) g.0, g.1)
leads_from p c d Stuck h g = subst IsInvalid (sym h) g

pub waits_here :
    (p : Program) (x : Run) (is : List Instr) → x.top.ahead.rest.now ≡ is → (length is == 0) ≡ false
    → (settled p (config x Next) ≡ config x Next) × HasNext x
waits_here p x [] e h = cc
waits_here p x (i ∷ is) e h = (waits_on p x i is e, record { op = op_of i; rest = ops_in is; is = ap ops_in e })

pub none_left : (is : List Instr) → (length is == 0) ≡ true → is ≡ []
none_left [] h = refl
none_left (i ∷ is) h = absurd (grind (arith, nat_tests, h))

-- a frame ends, and gives some of its operands, or all
module _ (p : Program) (x : Run) (vs : List Value) (few : length vs ≤ length x.top.operands)
    (closed : x.top.labels ≡ []) (within : IsWithin x) where
  abbrev after_frames : Items
  after_frames = tail_from x.pending

  abbrev here : Store
  here = store_of x.store

  abbrev bare : Level
  bare = record (level_of x.top) { opens = [] }

  is_bare : level_of x.top ≡ bare
  is_bare = ap (λ cs. level_of (record x.top { labels = cs })) closed

  values_bare : (ks : List Level) → map level_of x.callers ≡ ks → all_values (bare ∷ ks) ≤ max_values
  values_bare ks e =
      subst (λ ls. all_values ls ≤ max_values)
      (ap (λ (l : Level). l ∷ map level_of x.callers) is_bare ∙ ap (λ (ls : List Level). bare ∷ ls) e) within.values

  frames_bare : (ks : List Level) → map level_of x.callers ≡ ks → length (bare ∷ ks) ≤ max_frames
  frames_bare ks e =
      subst (λ (ls : List Level). length ls ≤ max_frames)
      (ap (λ (l : Level). l ∷ map level_of x.callers) is_bare ∙ ap (λ (ls : List Level). bare ∷ ls) e) within.frames

  given_fits :
      (k : Level) (ks : List Level) → map level_of x.callers ≡ k ∷ ks
      → Fits p here (record k { operands = vs ++ k.operands }) ks after_frames
  given_fits k ks e =
      let v = values_bare (k ∷ ks) e in
      let f = frames_bare (k ∷ ks) e in
      let a = length-append (vs ++ k.operands) (below_all k.opens) in
      let b = length-append vs k.operands in
      let c = length-append k.operands (below_all k.opens) in
      let d = length-append x.top.operands [] in
      fits p here (record k { operands = vs ++ k.operands }) ks x.pending (omega (arith, few, v, a, b, c, d))
      (omega (arith, f))

  few_given : length vs ≤ max_values
  few_given =
      let v = values_bare (map level_of x.callers) refl in
      let d = length-append x.top.operands [] in
      omega (arith, few, v, d)

  gives_by :
      (is : Items)
      → settled p (conf here (running (tree_with bare [] after_frames is)))
      ≡ settled p (conf here (running (seq vs after_frames)))
      → ((k : Level) (ks : List Level) → Fits p here (record k { operands = vs ++ k.operands }) ks after_frames
      → settled p (conf here (running (tree_with bare (k ∷ ks) after_frames is)))
      ≡ settled p (conf here (running (tree_of (record k { operands = vs ++ k.operands }) ks after_frames))))
      → (ks : List Level) → map level_of x.callers ≡ ks
      → settled p (conf here (running (tree_with bare ks after_frames is)))
      ≡ settled p (conf here (running (given vs ks after_frames)))
  gives_by is outermost_so called_so [] e = outermost_so
  gives_by is outermost_so called_so (k ∷ ks) e = called_so k ks (given_fits k ks e)

  from_bare :
      (is : Items)
      → settled p (conf here (running (tree_with (level_of x.top) (map level_of x.callers) after_frames is)))
      ≡ settled p (conf here (running (tree_with bare (map level_of x.callers) after_frames is)))
  from_bare is =
      ap (λ (l : Level). settled p (conf here (running (tree_with l (map level_of x.callers) after_frames is)))) is_bare

  nv : items_values after_frames ≡ 0
  nv = tail_values (option_to_list x.pending)

  nf : items_frames after_frames ≡ 0
  nf = tail_frames (option_to_list x.pending)

  abbrev gives_these : Configuration
  gives_these = configured x.store (running (given vs (map level_of x.callers) after_frames))

  -- by its last instruction
  pub frame_done : vs ≡ x.top.operands → x.top.ahead.rest.now ≡ [] → settled p (config x Next) ≡ settled p gives_these
  frame_done all none =
      ap (λ (os : Ops). settled p (conf here (running (tree_with (level_of x.top) (map level_of x.callers) after_frames
      (items_of x.top.ahead.place os))))) (ap ops_in none)
      ∙ (from_bare done
      ∙ gives_by done
      (subst (λ (us : List Value). settled p (conf here (running (tree_with bare [] after_frames done)))
      ≡ settled p (conf here (running (seq us after_frames)))) (sym all)
      (outermost_end p here after_frames bare
      (subst (λ (us : List Value). length us ≤ max_values) all few_given) nv nf))
      (λ k ks fit. subst
      (λ (us : List Value). settled p (conf here (running (tree_with bare (k ∷ ks) after_frames done)))
      ≡ settled p (conf here (running (tree_of (record k { operands = us ++ k.operands }) ks after_frames)))) (sym all)
      (frame_end p here after_frames bare k ks
      (subst (λ (us : List Value). Fits p here (record k { operands = us ++ k.operands }) ks after_frames) all fit)))
      (map level_of x.callers) refl)

  -- by a return, with these items after it
  pub frame_return :
      (is : Items) → vs ≡ take x.top.arity x.top.operands
      → settled p (conf here (running (tree_with (level_of x.top) (map level_of x.callers) after_frames (more ret is))))
      ≡ settled p gives_these
  frame_return is some =
      from_bare (more ret is)
      ∙ gives_by (more ret is)
      (subst (λ (us : List Value). settled p (conf here (running (tree_with bare [] after_frames (more ret is))))
      ≡ settled p (conf here (running (seq us after_frames)))) (sym some)
      (outermost_returns p here after_frames bare is
      (subst (λ (us : List Value). length us ≤ max_values) some few_given) nv nf))
      (λ k ks fit. subst
      (λ (us : List Value). settled p (conf here (running (tree_with bare (k ∷ ks) after_frames (more ret is))))
      ≡ settled p (conf here (running (tree_of (record k { operands = us ++ k.operands }) ks after_frames)))) (sym some)
      (frame_returns p here after_frames bare k ks is
      (subst (λ (us : List Value). Fits p here (record k { operands = us ++ k.operands }) ks after_frames) some fit)))
      (map level_of x.callers) refl

  -- by a branch to the body's label
  pub frame_branch :
      (is : Items) → vs ≡ take x.top.arity x.top.operands
      → settled p
      (conf here (running (tree_with (level_of x.top) (map level_of x.callers) after_frames (more (branch 0) is))))
      ≡ settled p gives_these
  frame_branch is some =
      from_bare (more (branch 0) is)
      ∙ gives_by (more (branch 0) is)
      (subst (λ (us : List Value). settled p (conf here (running (tree_with bare [] after_frames (more (branch 0) is))))
      ≡ settled p (conf here (running (seq us after_frames)))) (sym some)
      (outermost_branches p here after_frames bare is
      (subst (λ (us : List Value). length us ≤ max_values) some few_given) nv nf))
      (λ k ks fit. subst
      (λ (us : List Value). settled p
      (conf here (running (tree_with bare (k ∷ ks) after_frames (more (branch 0) is))))
      ≡ settled p (conf here (running (tree_of (record k { operands = us ++ k.operands }) ks after_frames)))) (sym some)
      (frame_branches p here after_frames bare k ks is
      (subst (λ (us : List Value). Fits p here (record k { operands = us ++ k.operands }) ks after_frames) some fit)))
      (map level_of x.callers) refl

-- a branch out of a frame has no rule
branch_fails :
    (p : Program) (r : Store) (l : Level) (ls : List Level) (tail : Items) (k : ℕ) (is : Items)
    → of_reduced (reduce p (env p r []) (tree_with (record l { opens = [] }) ls tail (more (branch (suc k)) is)))
    ≡ conf r stuck
branch_fails p r l [] rest k is = refl
branch_fails p r l (j ∷ js) rest k is =
    ap of_reduced
    (level_ends p j js rest r (env p r j.locals)
    (more (framed_by (record l { opens = [] }) (more (branch (suc k)) is)) (items_of j.place j.rest)) stuck refl refl)

pub branches_nowhere :
    (p : Program) (x : Run) (k : ℕ) → x.top.labels ≡ [] → 0 < k → IsInvalid (settled p (config x (Branches k)))
branches_nowhere p x zero none some = absurd (omega (arith, some))
branches_nowhere p x (suc k) none some =
    let r = store_of x.store in
    let ls = map level_of x.callers in
    let tail = tail_from x.pending in
    let is = items_of x.top.ahead.place (level_of x.top).rest in
    let l : Level = record (level_of x.top) { opens = [] } in
    let c = conf r (running (tree_with l ls tail (more (branch (suc k)) is))) in
    let bare = ap (λ cs. config (record x { top = record x.top { labels = cs } }) (Branches (suc k))) none in
    let fails =
    ap (settled p) bare
    ∙ (unsettled p c (is_unsettled p r l ls tail (more (branch (suc k)) is) refl)
    ∙ (ap (settled p) (branch_fails p r l ls tail k is) ∙ settled_stays p (conf r stuck) refl)) in
    no_rule (ap (λ (d : Configuration). d.state) fails)

-- some of the values are no more than all
pub few_taken : (n : ℕ) (vs ws : List Value) → ws ≡ take n vs → length ws ≤ length vs
few_taken n vs ws h = let a = ap (length {A = Value}) h in let b = length-take n vs in omega (arith, a, b)

-- what does not go on is settled
pub settled_so : (s : Step) → ((x : Run) (d : Doing) → s ≡ Goes x d → ⊥) → IsSettled s
settled_so (Goes x d) h = h x d refl
settled_so (Waits x) h = tt
settled_so (Ends e store) h = tt
settled_so Stuck h = tt

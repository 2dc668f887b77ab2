-- `front` shows the values that a `&` to the row lends from its first place on. Assumes `Logic`.
use Rattle.std.proofs.Common.{◌≡◌, ℕ, zero, suc, ◌+◌, ◌*◌, ◌<◌, ◌≤◌, ◌^◌, List, [], ◌∷◌, ◌++◌, length, take, get_or, Bool, true, false, refl, sym, ap, ◌∙◌, arith, w64}
use native.Mathlib.Nat.{not-suc-le-zero, le_of_suc-le-suc}
use lib.ListN.{length-take}
use seplogic.Ra.Ura.{Ura}
use mir.Syntax.{Fn, Args, a_type, named}
use mir.Val.{Val, vint, vptr}
use mir.MapTy.{inst_fn}
use base.Logic.{SProp, ent, emp}
use base.Fml.{Lft, Share, ftrue, flt, flft}
use prog.Wp.{Env, WpFn}
use types.Logic.{Logic, sem}
use contract.BorrowLft.{◌⊑◌}
use contract.Monad.{fact, fact_i}
use contract.Running.{tables}
use types.Kit.{⋆, ‵, raw, ◌⊛◌, prop, at_ret, ◌$◌, ◌∵◌, !, qed, by, move, keep, drop, use0, use1, split, split3, join, rewrite, regoal, fsplit, fjoin, feq_i, feq_l, flt_i, flt_l, done}
use types.Part.{whole, sub, agg}
use types.Run.{stop, fld, of_opd, no_more, and_then, first, blocks, exec, returns, enter}
use types.ByLocal.{alloc_all, pass_all, free_all, look_at, get, get_in, sets, sets_last, env}
use denote.RattleType.{owns}
use denote.Param.{layouts}
use denote.Memory.{hidden_shr}
use denote.Builtin.{usize}
use denote.RawPtr.{Ptr, RawPtr, block_ptr, block_of, count_of, at_block}
use denote.Ref.{Bor}
use denote.Signature.{types_at}
use denote.Slice.{ShrSlice, slice_val, elements_shared}
use denote.Opens.{hide}
use denote.Steps.{nothing, heard}
use denote.Triple.Walked.{Stays, stay_dropped, walk_of, Goes-dropped}
use Rattle.core.proofs.mem.Param.{El, R, el_x}
use Rattle.core.proofs.ptr.Rows.{times_below}
use Rattle.core.proofs.slots.Places.{sz}
use Rattle.core.proofs.slots.Lent.{shown}
use Rattle.core.specs.Mem.Slots.Ownership.{Filled, slot_lent, slots_lent}
use Rattle.core.specs.Mem.Slots.{slots_len, slots_items, slots_filled, slots_ptr, slots_counts}
use Rattle.std.proofs.raw_atomic.Walks.{proved_at, leaves}
use Rattle.std_alloc.proofs.RcSteps.{word, word-Good}
use Rattle.std_alloc.proofs.VecSteps.Shapes.{after}
use Rattle.raw_block.specs.Starts.{BeginsAt}
use Rattle.raw_block.proofs.Rows.{slot_at, word_had}
use Rattle.raw_block.specs.contracts.block.front.{ended, clauses}
use Rattle.raw_block.specs.contracts.block.front.Key.{name as #self}
use Rattle.raw_block.proofs.block.front.Statement.{statement}
use Rattle.raw_block.proofs.block.front.Code as compiled

-- the first n places lend what a slice of their values lends
module _ (E : El) {M : Type 1} {𝓤 : Ura M} (𝓛 : Logic 𝓤) (κ : Lft) (b : ℕ) where
  front_lent : (n o : ℕ) (xs : List (el_x E)) (fs : List Bool) → n ≤ length xs → n ≤ length fs
      → ((k : ℕ) → k < n → get_or fs k false ≡ true)
      → ent 𝓤 (sem 𝓛 (slots_lent (R E) (block_ptr b o) xs fs κ)) (sem 𝓛 (elements_shared (R E) (take n xs) b o κ))
  front_lent zero o xs fs l m full = qed 𝓛 (‵ (slots_lent (R E) (block_ptr b o) xs fs κ) ∷ []) ∵ keep ! [] $ done !
  front_lent (suc n) o [] fs l m full = absurd (not-suc-le-zero l)
  front_lent (suc n) o (x ∷ xs) [] l m full = absurd (not-suc-le-zero m)
  front_lent (suc n) o (x ∷ xs) (f ∷ fs) l m full =
      qed 𝓛 (‵ (slot_lent (R E) f (block_ptr b o) x κ) ∷ ‵ (slots_lent (R E) (block_ptr b (o + sz E)) xs fs κ) ∷ []) ∵
      rewrite ! 0 (λ (g : Bool). ‵ (slot_lent (R E) g (block_ptr b o) x κ)) (full 0 (omega arith)) refl $
      fsplit ! $ drop ! $
      move ! (1 ∷ []) $
      use1 𝓛 (‵ (elements_shared (R E) (take n xs) b (o + sz E) κ))
      (front_lent n (o + sz E) xs fs (le_of_suc-le-suc l) (le_of_suc-le-suc m) (λ k lt. full (suc k) (omega arith))) $
      move ! (1 ∷ 0 ∷ []) $ fjoin ! $ done !

pub front_spec : {M : Type 1} → statement M
front_spec 𝓤 𝓛 𝓜 𝓡 wired T L =
    let H = 𝓛.H in
    let En₀ = ended T in
    let c = clauses T 𝓛 𝓜.mem 𝓡.returns in
    let args : Args = layouts (a_type ∷ []) (T, tt) in
    let fn : Fn = inst_fn args compiled.function in
    let s0 = slot_at 0 En₀.signature.params in let s1 = slot_at 1 En₀.signature.params in
    let s2 = slot_at 2 En₀.signature.params in
    let stays :
    Stays En₀.signature.params En₀.kept =
    (stay_dropped s0 En₀.kept.0, (stay_dropped s1 En₀.kept.1.0, (stay_dropped s2 En₀.kept.1.1.0, tt))) in
    let C = (tables 𝓤 H 𝓜 𝓡 𝓡.env).C in
    let Λ = (tables 𝓤 H 𝓜 𝓡 𝓡.env).Λ in
    proved_at 𝓛 En₀ stays c 𝓜 𝓡 (
      Goes-dropped 𝓛 2 s0 En₀.kept.0 (λ κs x f. refl),
      (Goes-dropped 𝓛 2 s1 En₀.kept.1.0 (λ κs x f. refl), (Goes-dropped 𝓛 2 s2 En₀.kept.1.1.0 (λ κs x f. refl), tt)),
    )
    (#self args) fn (compiled.unfolded 𝓤 H 𝓜 𝓡 wired (T, tt)) (λ z are.
    let Post : Val → SProp 𝓤 = (walk_of 𝓛 En₀ stays c).post z in
    let vss = z.0.4 in
    let κ : Lft = z.0.0.0 in let q : Share = z.0.1.0 in
    let κT : Lft = z.0.0.1.0 in let qT : Share = z.0.1.1.0 in
    let E : El = record { row = T; laws = L } in
    let rb : ℕ = z.0.3.0.ref_ptr.0 in let ro : ℕ = z.0.3.0.ref_ptr.1 in let d = z.0.3.0.now in
    let start = z.0.3.1.0 in let n : ℕ = z.0.3.1.1.0 in
    let s : ℕ = sz E in let b : ℕ = block_of (slots_ptr d) in let o : ℕ = count_of (slots_ptr d) in
    let xs : List (el_x E) = take n (slots_items d) in
    let fits = are.1.1.0.1 in
    let Asks : Type 0 = BeginsAt d start × (n ≤ slots_len d) × Filled (slots_filled d) 0 n in
    let Says : Bor (List (el_x E)) → Type 0 = λ r. r.now ≡ take n (slots_items d) in
    let exits :
    (r : Bor (List (el_x E))) (v : Val) → Says r
    → ent 𝓤 (⋆ 𝓛 (‵ ((ShrSlice (named 0) κ (R E)).own_val r (v ∷ [])) ∷ ‵ (flft κ q) ∷ ‵ (flft κT qT) ∷ [])) (Post v) =
    λ r v said.
    qed 𝓛 (‵ ((ShrSlice (named 0) κ (R E)).own_val r (v ∷ [])) ∷ ‵ (flft κ q) ∷ ‵ (flft κT qT) ∷ []) ∵
    nothing ! $ move ! (3 ∷ 0 ∷ []) $ join ! $ move ! (2 ∷ 0 ∷ []) $ join ! $
    use0 𝓛 (raw (fact 𝓤 (Says r))) (fact_i 𝓤 (Says r) (emp 𝓤) said) $ nothing ! $ nothing ! $ fjoin ! $ nothing ! $
    fjoin ! $ nothing ! $ fjoin ! $ move ! (2 ∷ 0 ∷ 3 ∷ 1 ∷ []) $
    by ! (leaves 𝓛 En₀ stays c z v r (tt, (tt, (tt, tt))) (tt, (tt, (tt, tt)))) in
    qed 𝓛
    (((‵ (flft κ q) ⊛ ‵ (flft κT qT) ⊛ ‵ ftrue) ⊛ ‵ (owns (types_at En₀.signature.params z.0.0) z.0.3 vss))
    ∷ (raw (fact 𝓤 (κT ⊑ T.lives)) ⊛ raw (fact 𝓤 Asks)) ∷ []) ∵
    move ! (1 ∷ []) $ split ! $ heard ! (κT ⊑ T.lives) (λ le. heard ! Asks (λ asked.
    split ! $ split3 ! $ move ! (3 ∷ []) $ fsplit ! $ fsplit ! $ feq_l ! (λ e0. move ! (1 ∷ []) $
    fsplit ! $ word_had ! start.ptr vss.1.0 (λ e1. fsplit ! $ fsplit ! $ feq_l ! (λ e2. drop ! $ drop ! $
    keep ! (0 ∷ 1 ∷ 2 ∷ []) $
    use1 𝓛 (‵ (hidden_shr RawPtr κ (slots_ptr d) rb (ro + 0)) ⊛ ‵ (hidden_shr usize κ (slots_len d) rb (ro + 8))
    ⊛ ‵ (flt (slots_len d * s) (2 ^ 63)) ⊛ ‵ (slots_lent (R E) (slots_ptr d) (slots_items d) (slots_filled d) κ))
    (shown E 𝓛 κ d rb ro) $ split3 ! $ drop ! $ drop ! $ split ! $ flt_l ! (λ fit.
    let lx = (slots_counts d).0 in let lf = (slots_counts d).1 in
    let at : slots_ptr d ≡ block_ptr b o = at_block (slots_ptr d) asked.0.0 in
    let long : length xs ≡ n = omega (arith, length-take n (slots_items d)) in
    rewrite ! 0 (λ (p : Ptr). ‵ (slots_lent (R E) p (slots_items d) (slots_filled d) κ)) at refl $
    use1 𝓛 (‵ (elements_shared (R E) xs b o κ))
    (front_lent E 𝓛 κ b n o (slots_items d) (slots_filled d) (omega arith) (omega arith)
    (λ k lt. asked.2 k (omega arith) lt)) $ hide ! $
    -- [the values; the tokens]
    regoal ! (λ (us : List Val). prop (WpFn 𝓤 H C Λ fn us Post))
    (λ i. e0 i ++ ((e1 ∙ ap (λ (p : Ptr). word p ∷ []) (asked.0.1 ∙ at)) i ++ (e2 i ++ []))) refl $
    enter ! C Λ fn (vptr rb ro ∷ word (block_ptr b o) ∷ vint w64 n ∷ []) Post $
    alloc_all ! (λ l. pass_all ! refl ((tt, tt), (word-Good [] (block_ptr b o), ((tt, record { fits = fits }), tt))) $
    let En : Env 𝓤 𝓛.H = env fn.locals l in
    first ! $ blocks ! $
    sets_last !
    (agg ! (and_then ! (get_in ! (fld ! refl (stop !)) (sub ! 0 refl (whole !))) (and_then ! (get ! refl) (no_more !))))
    refl
    (tt, (tt, (record { fits = fits }, tt))) $
    exec ! C Λ En (after 1 fn.body) (at_ret En Post) $
    sets ! (of_opd ! (get ! refl)) refl (tt, (tt, (record { fits = fits }, tt))) $
    flt_i ! (length xs * s) (2 ^ 63) (times_below (length xs) (slots_len d) s (2 ^ 63) (omega arith) fit) $
    flt_i ! (length xs) (2 ^ 64) (omega arith) $ fjoin ! $
    feq_i ! (List Val) (slice_val (b, o) n ∷ []) (slice_val (b, o) (length xs) ∷ [])
    (ap (λ k. slice_val (b, o) k ∷ []) (sym long)) $ fjoin ! $ fjoin ! $
    returns ! (look_at ! 0 refl) $ free_all ! refl $ keep ! (0 ∷ 1 ∷ 2 ∷ []) $
    by ! (exits (record { ref_ptr = (b, o); now = xs }) (slice_val (b, o) n) refl)))))))))

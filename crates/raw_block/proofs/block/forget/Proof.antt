-- `forget` takes a row apart and drops what it owned. Assumes `Logic`.
use Rattle.std.proofs.Common.{◌≡◌, ℕ, List, [], ◌∷◌, ◌++◌, refl}
use mir.Syntax.{Fn, Args, a_type, given as dict_at}
use mir.Val.{Val, vunit, WT}
use mir.MapTy.{inst_fn}
use base.Logic.{SProp}
use base.Fml.{Lft, Share, ftrue, flft}
use prog.Wp.{Env, WpFn}
use contract.BorrowLft.{◌⊑◌}
use contract.Monad.{fact}
use contract.Running.{tables}
use types.Kit.{‵, raw, ◌⊛◌, given, later, prop, at_ret, ◌$◌, ◌∵◌, !, qed, by, move, keep, drop, use1, use2, split, join, learn, regoal, fsplit, fjoin, feq_i, await}
use types.Run.{of_opd, unit_lit, no_more, and_then, first, blocks, exec, returns, enter}
use types.ByLocal.{alloc_all, pass_all, free_all, look_at, get, sets, lands_last, env}
use denote.RattleType.{owns}
use denote.Param.{layouts}
use denote.Signature.{types_at}
use denote.Steps.{nothing, heard}
use denote.Triple.Call.{calls_at_last}
use denote.Triple.Walked.{Stays, stay_dropped, walk_of}
use Rattle.core.specs.Mem.Slots.{slots_items, slots_filled, slots_len}
use Rattle.core.proofs.alloc.Calls.{Goes-blank}
use Rattle.core.proofs.atomic.Steps.{fm}
use Rattle.core.proofs.slots.Opens.{row_val, row_had, row_made}
use Rattle.core.proofs.slots.Slots.into_raw_parts.Met as callee
use Rattle.std.proofs.raw_atomic.Walks.{proved_at, leaves}
use Rattle.std_alloc.proofs.VecSteps.El.{El}
use Rattle.std_alloc.proofs.VecSteps.Shapes.{after}
use Rattle.std_alloc.proofs.vec.Blocks.{el, all}
use Rattle.std_alloc.proofs.vec.Spares.{Row, parts_typed, Into, at_into, Into-goes, Into-gives}
use Rattle.raw_block.proofs.Rows.{slot_at}
use Rattle.raw_block.specs.contracts.block.forget.{ended, clauses}
use Rattle.raw_block.specs.contracts.block.forget.Key.{name as #self}
use Rattle.raw_block.proofs.block.forget.Statement.{statement}
use Rattle.raw_block.proofs.block.forget.Code as compiled

pub forget_spec : {M : Type 1} → statement M
forget_spec 𝓤 𝓛 𝓜 𝓡 wired X L =
    let H = 𝓛.H in
    let En₀ = ended X in
    let c = clauses X 𝓛 𝓜.mem 𝓡.returns in
    let args : Args = layouts (a_type ∷ []) (X, tt) in
    let fn : Fn = inst_fn args compiled.function in
    let stays : Stays En₀.signature.params En₀.kept = (stay_dropped (slot_at 0 En₀.signature.params) En₀.kept.0, tt) in
    let C = (tables 𝓤 H 𝓜 𝓡 𝓡.env).C in
    let Λ = (tables 𝓤 H 𝓜 𝓡 𝓡.env).Λ in
    proved_at 𝓛 En₀ stays c 𝓜 𝓡 (Goes-blank 𝓛 1 (slot_at 0 En₀.signature.params) En₀.kept.0 (λ κs x f. tt), tt)
    (#self args) fn (compiled.unfolded 𝓤 H 𝓜 𝓡 wired (X, tt)) (λ z are.
    let Post : Val → SProp 𝓤 = (walk_of 𝓛 En₀ stays c).post z in
    let vss = z.0.4 in
    let κT : Lft = z.0.0.0 in let qT : Share = z.0.1.0 in
    let E :
    El =
    record {
      row = X;
      laws = L;
      al =
          record { row = X; laws = L; g = record { dealloc_token = λ _ _ _. ftrue }; d = dict_at 0; drops = dict_at 0 };
    }
    in
    let r : (Row E).Denot = z.0.3.0 in let n : ℕ = slots_len r in
    let None : Type 0 = n ≡ 0 in
    qed 𝓛
    (((‵ (flft κT qT) ⊛ ‵ ftrue) ⊛ ‵ (owns (types_at En₀.signature.params z.0.0) z.0.3 vss))
    ∷ (raw (fact 𝓤 (κT ⊑ X.lives)) ⊛ raw (fact 𝓤 None)) ∷ []) ∵
    move ! (1 ∷ []) $ split ! $ heard ! (κT ⊑ X.lives)
    (λ inT. drop ! $ split ! $ split ! $ move ! (2 ∷ []) $ fsplit ! $ keep ! (0 ∷ 2 ∷ []) $
    row_had (el E) ! r vss.0 (λ b o at e₁ fk small. row_made (el E) ! r b o at fk small $
    let words : WT (row_val b o n) = (tt, (record { fits = fk }, tt)) in
    regoal ! (λ (us : List Val). prop (WpFn 𝓤 H C Λ fn us Post)) (λ i. e₁ i ++ []) refl $
    enter ! C Λ fn (row_val b o n ∷ []) Post $
    alloc_all ! (λ l. pass_all ! refl ((tt, words), tt) $
    let En : Env 𝓤 𝓛.H = env fn.locals l in
    let y = at_into E 𝓛 𝓜.mem 𝓡.returns κT qT r b o in
    first ! $ blocks ! $ sets ! (of_opd ! (get ! refl)) refl (tt, words) $
    use2 𝓛 (raw ((Into E 𝓛 𝓜.mem 𝓡.returns).pre y)) (Into-goes E 𝓛 𝓜.mem 𝓡.returns κT qT r b o inT) $
    calls_at_last ! (fm 𝓛 𝓜 𝓡) (Into E 𝓛 𝓜.mem 𝓡.returns)
    (callee.met 𝓤 𝓛 𝓜 𝓡 (compiled.calls-core::slots::Slots::into_raw_parts 𝓡.env wired) X L) y
    (and_then ! (get ! refl) (no_more !)) (λ v.
    use1 𝓛 (later (given (v ≡ row_val b o n) (‵ (all E b o (slots_items r) (slots_filled r)) ⊛ ‵ (flft κT qT))))
    (Into-gives E 𝓛 𝓜.mem 𝓡.returns κT qT r b o v at) $ await ! tt $ learn ! (λ e. split ! $
    lands_last ! refl (parts_typed v b o n e fk) $ exec ! C Λ En (after 1 fn.body) (at_ret En Post) $
    sets ! (of_opd ! (get ! refl)) refl (parts_typed v b o n e fk) $
    sets ! (of_opd ! (unit_lit !)) refl (tt, tt) $ returns ! (look_at ! 0 refl) $ free_all ! refl $ keep ! (1 ∷ []) $
    nothing ! $ move ! (1 ∷ 0 ∷ []) $ join ! $
    nothing ! $ feq_i ! (List Val) (vunit ∷ []) (vunit ∷ []) refl $ nothing ! $ nothing ! $ fjoin ! $ move !
    (3 ∷ 0 ∷ 1 ∷ 2 ∷ []) $
    by ! (leaves 𝓛 En₀ stays c z vunit tt (tt, tt) (tt, tt))))))))

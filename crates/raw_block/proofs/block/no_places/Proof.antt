-- `no_places` hands `from_raw_parts` a row of no places, which owns nothing. Assumes `Logic`.
use Rattle.std.proofs.Common.{◌≡◌, ℕ, ◌<◌, ◌^◌, ◌*◌, List, [], ◌∷◌, ◌++◌, refl, sym, subst, lit<}
use native.Mathlib.Nat.{zero-mul}
use mir.Syntax.{Fn, Args, a_type, place, given as dict_at}
use mir.Val.{Val, vptr}
use mir.MapTy.{inst_fn}
use base.Logic.{SProp, emp}
use base.Fml.{Lft, Share, ftrue, flft}
use prog.Wp.{Env, WpFn}
use contract.BorrowLft.{◌⊑◌}
use contract.Monad.{fact, fact_i}
use contract.Running.{tables}
use types.Kit.{‵, raw, ◌⊛◌, some, given, later, prop, settles, at_ret, ◌$◌, ◌∵◌, !, qed, by, move, keep, drop, use0, use1, use2, split, split3, join, pick, learn, regoal, fjoin, await}
use types.Run.{stop, addr, of_opd, lit, no_more, and_then, first, blocks, exec, returns, enter}
use types.ByLocal.{alloc_all, pass_all, free_all, look_at, get, through, sets, lands_last, env}
use denote.RattleType.{owns}
use denote.Param.{layouts}
use denote.Signature.{types_at}
use denote.Steps.{nothing, heard}
use denote.Triple.Call.{calls_at_last}
use denote.Triple.Walked.{Stays, stay_dropped, walk_of, Goes-dropped}
use Rattle.core.proofs.alloc.Shapes.{after}
use Rattle.core.proofs.atomic.Steps.{fm}
use Rattle.core.proofs.slots.Opens.{row_val}
use Rattle.core.proofs.slots.Slots.from_raw_parts.Met as callee
use Rattle.std.proofs.raw_atomic.Walks.{proved_at, leaves}
use Rattle.std_alloc.proofs.VecSteps.El.{El, sz}
use Rattle.std_alloc.proofs.vec.Spares.{Row, From, at_from, Made, from_goes, from_gives}
use Rattle.raw_block.proofs.Rows.{slot_at, then_runs, out_of_block}
use Rattle.raw_block.specs.contracts.block.no_places.{ended, clauses}
use Rattle.raw_block.specs.contracts.block.no_places.Key.{name as #self}
use Rattle.raw_block.proofs.block.no_places.Statement.{statement}
use Rattle.raw_block.proofs.block.no_places.Code as compiled

pub no_places_spec : {M : Type 1} → statement M
no_places_spec 𝓤 𝓛 𝓜 𝓡 wired T L =
    let H = 𝓛.H in
    let En₀ = ended T in
    let c = clauses T 𝓛 𝓜.mem 𝓡.returns in
    let args : Args = layouts (a_type ∷ []) (T, tt) in
    let fn : Fn = inst_fn args compiled.function in
    let stays : Stays En₀.signature.params En₀.kept = (stay_dropped (slot_at 0 En₀.signature.params) En₀.kept.0, tt) in
    let C = (tables 𝓤 H 𝓜 𝓡 𝓡.env).C in
    let Λ = (tables 𝓤 H 𝓜 𝓡 𝓡.env).Λ in
    proved_at 𝓛 En₀ stays c 𝓜 𝓡 (Goes-dropped 𝓛 2 (slot_at 0 En₀.signature.params) En₀.kept.0 (λ κs x f. refl), tt)
    (#self args) fn (compiled.unfolded 𝓤 H 𝓜 𝓡 wired (T, tt)) (λ z are.
    let Post : Val → SProp 𝓤 = (walk_of 𝓛 En₀ stays c).post z in
    let a = z.0.3 in
    let vss = z.0.4 in
    let κ : Lft = z.0.0.0 in
    let q : Share = z.0.1.0 in
    let κT : Lft = z.0.0.1.0 in
    let qT : Share = z.0.1.1.0 in
    let b = a.0.ref_ptr.0 in
    let o = a.0.ref_ptr.1 in
    let E :
    El =
    record {
      row = T;
      laws = L;
      al =
          record { row = T; laws = L; g = record { dealloc_token = λ _ _ _. ftrue }; d = dict_at 0; drops = dict_at 0 };
    }
    in
    let none : 0 < 2 ^ 64 = lit< tt in
    let fit : 0 * sz E < 2 ^ 63 = subst (λ (k : ℕ). k < 2 ^ 63) (sym (zero-mul (sz E))) (lit< tt) in
    qed 𝓛
    (((‵ (flft κ q) ⊛ ‵ (flft κT qT) ⊛ ‵ ftrue) ⊛ ‵ (owns (types_at En₀.signature.params z.0.0) a vss))
    ∷ (raw (fact 𝓤 (κT ⊑ T.lives)) ⊛ ‵ ftrue) ∷ []) ∵
    move ! (1 ∷ []) $ split ! $ heard ! (κT ⊑ T.lives) (λ le. drop ! $ split ! $ split3 ! $ keep ! (0 ∷ 1 ∷ []) $
    let y = at_from E 𝓛 𝓜.mem 𝓡.returns κT qT b o 0 [] [] in
    regoal ! (λ (us : List Val). prop (WpFn 𝓤 H C Λ fn us Post)) (λ i. are.0.0 i ++ []) refl $
    enter ! C Λ fn (vptr b o ∷ []) Post $
    alloc_all ! (λ l. pass_all ! refl ((tt, tt), tt) $ let En : Env 𝓤 𝓛.H = env fn.locals l in
    sets ! (addr ! (through ! refl (stop !))) refl (tt, tt) $
    first ! $ blocks ! $
    nothing ! $ move ! (0 ∷ 2 ∷ []) $
    use2 𝓛 (raw ((From E 𝓛 𝓜.mem 𝓡.returns).pre y))
    (from_goes E 𝓛 𝓜.mem 𝓡.returns κT qT b o 0 [] [] le refl refl none fit) $
    calls_at_last ! (fm 𝓛 𝓜 𝓡) (From E 𝓛 𝓜.mem 𝓡.returns)
    (callee.met 𝓤 𝓛 𝓜 𝓡 (compiled.calls-core::slots::Slots::from_raw_parts 𝓡.env wired) T L) y
    (and_then ! (get ! refl) (and_then ! (lit ! tt) (no_more !))) (λ v.
    use1 𝓛
    (later
    (some
    (λ (r : (Row E).Denot). given ((v ≡ row_val b o 0) × Made E 𝓛 𝓜.mem 𝓡.returns κT qT b o 0 [] [] r)
    (‵ ((Row E).own_val r (row_val b o 0 ∷ [])) ⊛ ‵ (flft κT qT)))))
    (from_gives E 𝓛 𝓜.mem 𝓡.returns κT qT b o 0 [] [] v) $
    await ! tt $ pick !
    (λ r. learn !
    (λ made. split ! $ regoal !
    (λ (u : Val). settles En (place 3 []) u
    (out_of_block 𝓛 (then_runs 𝓛 C Λ En (after 2 fn.body) (at_ret En Post)))) (made.0) refl $ lands_last ! refl
    (tt, (tt, (record { fits = none }, tt))) $
    exec ! C Λ En (after 2 fn.body) (at_ret En Post) $
    sets ! (of_opd ! (get ! refl)) refl (tt, (tt, (record { fits = none }, tt))) $
    returns ! (look_at ! 0 refl) $ free_all ! refl $
    -- [the row; T's token; the reference's token]
    nothing ! $ move ! (2 ∷ 0 ∷ []) $ join ! $ move ! (2 ∷ 0 ∷ []) $ join ! $
    use0 𝓛 (raw (fact 𝓤 (r.len ≡ 0))) (fact_i 𝓤 (r.len ≡ 0) (emp 𝓤) made.1.1) $ nothing ! $ nothing ! $ fjoin ! $ move !
    (2 ∷ 0 ∷ 3 ∷ 1 ∷ []) $
    by ! (leaves 𝓛 En₀ stays c z (row_val b o 0) r (tt, tt) (tt, tt))))))))

-- `free` makes room of the places and hands the block back with the right to free it. Assumes `Logic`.
use Rattle.std.proofs.Common.{◌≡◌, ℕ, ◌<◌, ◌^◌, ◌*◌, T, Bool, List, [], ◌∷◌, ◌++◌, length, refl, sym, ap, subst, ◌∙◌, w64, arith}
use mir.Syntax.{Fn, ty_unit, ty_array}
use mir.Val.{Val, vunit, vint, vptr, has_ty, WT}
use mir.MapTy.{inst_fn}
use base.Logic.{SProp}
use base.Fml.{Lft, Share, froom, ftrue, flft, Incl-trans}
use prog.Memory.{align, capped}
use prog.Capped.{capped_fits}
use prog.Wp.{Env, WpFn}
use contract.BorrowLft.{◌⊑◌}
use contract.Monad.{fact}
use contract.Running.{tables}
use types.Kit.{‵, raw, ◌⊛◌, given, later, prop, at_ret, ◌$◌, ◌∵◌, !, qed, by, move, keep, use1, use2, use3, split, split3, join, learn, rewrite, regoal, fsplit, fjoin, feq_i, feq_l, await}
use types.Part.{whole, sub}
use types.Run.{stop, fld, of_opd, bin, size_word, align_word, unit_lit, no_more, and_then, first, blocks, exec, returns, enter}
use types.ByLocal.{alloc_all, pass_all, free_all, look_at, get, get_in, is, sets, lands_last, env}
use denote.RattleType.{owns}
use denote.RawPtr.{Ptr}
use denote.Signature.{types_at}
use denote.Steps.{nothing, heard}
use denote.Triple.Call.{calls_at_last}
use denote.Triple.Walked.{Stays, stay_dropped, walk_of, Goes-dropped}
use Rattle.core.specs.Mem.Slots.{slots_items, slots_filled, slots_ptr, slots_len, slots_counts}
use Rattle.core.proofs.alloc.Calls.{Al, token, Gives, at_gives, Gives-goes, Gives-Gives, Goes-blank}
use Rattle.core.proofs.atomic.Steps.{fm}
use Rattle.core.proofs.slots.Opens.{row_val, row_had, row_made}
use Rattle.core.proofs.slots.Places.{to_room}
use Rattle.core.proofs.slots.Leases.{uncapped, block_ty, block_size, block_align}
use Rattle.core.proofs.slots.Slots.into_raw_parts.Met as callee
use Rattle.std.proofs.raw_atomic.Walks.{proved_at, leaves}
use Rattle.std_alloc.proofs.VecSteps.El.{El, args, sz, elτ}
use Rattle.std_alloc.proofs.VecSteps.Shapes.{after}
use Rattle.std_alloc.proofs.vec.Blocks.{el, all}
use Rattle.std_alloc.proofs.vec.Spares.{Row, parts_typed, Into, at_into, Into-goes, Into-gives}
use Rattle.raw_block.proofs.Rows.{slot_at, Dd, mark, mark_had}
use Rattle.raw_block.specs.contracts.block.free.{ended, clauses}
use Rattle.raw_block.specs.contracts.block.free.Key.{name as #self}
use Rattle.raw_block.proofs.block.free.Statement.{statement}
use Rattle.raw_block.proofs.block.free.Code as compiled

pub free_spec : {M : Type 1} → statement M
free_spec 𝓤 𝓛 𝓜 𝓡 wired X W LT LW g d dd met md =
    let H = 𝓛.H in
    let Z : Al = record { row = W; laws = LW; g = g; d = d; drops = dd } in
    let E : El = record { row = X; laws = LT; al = Z } in
    let En₀ = ended X W g d dd in
    let c = clauses X W g d dd 𝓛 𝓜.mem 𝓡.returns in
    let fn : Fn = inst_fn (args E) compiled.function in
    let s0 =
    slot_at 0 En₀.signature.params in let s1 =
    slot_at 1 En₀.signature.params in let s2 = slot_at 2 En₀.signature.params in
    let stays :
    Stays En₀.signature.params En₀.kept =
    (stay_dropped s0 En₀.kept.0, (stay_dropped s1 En₀.kept.1.0, (stay_dropped s2 En₀.kept.1.1.0, tt))) in
    let C = (tables 𝓤 H 𝓜 𝓡 𝓡.env).C in
    let Λ = (tables 𝓤 H 𝓜 𝓡 𝓡.env).Λ in
    proved_at 𝓛 En₀ stays c 𝓜 𝓡 (
      Goes-dropped 𝓛 3 s0 En₀.kept.0 (λ κs x f. refl),
      (Goes-blank 𝓛 3 s1 En₀.kept.1.0 (λ κs x f. tt), (Goes-blank 𝓛 3 s2 En₀.kept.1.1.0 (λ κs x f. tt), tt)),
    )
    (#self (args E)) fn (compiled.unfolded 𝓤 H 𝓜 𝓡 wired (X, (W, tt)) d dd) (λ z are.
    let Post : Val → SProp 𝓤 = (walk_of 𝓛 En₀ stays c).post z in
    let vss = z.0.4 in
    let κ : Lft = z.0.0.0 in let q : Share = z.0.1.0 in
    let κT : Lft = z.0.0.1.0 in let qT : Share = z.0.1.1.0 in
    let κW : Lft = z.0.0.1.1.0 in let qW : Share = z.0.1.1.1.0 in
    let hp : ℕ × ℕ = z.0.3.0.ref_ptr in let a : W.Denot = z.0.3.0.now in
    let r : (Row E).Denot = z.0.3.1.0 in let deed : (Dd E).Denot = z.0.3.1.1.0 in
    let n : ℕ = slots_len r in let xs : List X.Denot = slots_items r in let fs : List Bool = slots_filled r in
    let s : ℕ = sz E in let al : ℕ = capped (align (elτ E)) in
    let Asks : Type 0 = (deed.at ≡ slots_ptr r) × (deed.len ≡ n) × (deed.alloc ≡ a) in
    qed 𝓛
    (((‵ (flft κ q) ⊛ ‵ (flft κT qT) ⊛ ‵ (flft κW qW) ⊛ ‵ ftrue) ⊛ ‵
    (owns (types_at En₀.signature.params z.0.0) z.0.3 vss))
    ∷ (raw (fact 𝓤 (κT ⊑ X.lives)) ⊛ raw (fact 𝓤 (κW ⊑ W.lives)) ⊛ raw (fact 𝓤 Asks)) ∷ []) ∵
    move ! (1 ∷ []) $ split3 ! $ heard ! (κT ⊑ X.lives) (λ inT. heard ! (κW ⊑ W.lives) (λ inW. heard ! Asks (λ asked.
    split ! $ split3 ! $ move ! (2 ∷ []) $ split ! $ move ! (4 ∷ []) $ fsplit ! $ fsplit ! $ feq_l !
    (λ e₀. keep ! (1 ∷ 0 ∷ 4 ∷ 5 ∷ 2 ∷ []) $
    -- [the row and the right; the handle; the tokens]
    fsplit ! $ row_had (el E) ! r vss.1.0
    (λ b o at e₁ fk small. row_made (el E) ! r b o at fk small $ move ! (1 ∷ []) $ fsplit ! $ fsplit ! $ mark_had E
    ! vss.1.1.0 (λ e₂. keep ! (2 ∷ 5 ∷ 0 ∷ 3 ∷ 4 ∷ 6 ∷ []) $
    let bytes : n * s < 2 ^ 64 = omega arith in
    let words : WT (row_val b o n) = (tt, (record { fits = fk }, tt)) in
    rewrite ! 2 (λ (u : W.Denot × Ptr × ℕ). ‵ (token Z u.0 (block_ty (el E) u.2) u.1))
    (λ i. (asked.2 i, (asked.0 ∙ at) i, asked.1 i)) refl $
    -- [the row; T's token; the right to free the block; the handle; its token; A's token]
    regoal ! (λ (us : List Val). prop (WpFn 𝓤 H C Λ fn us Post)) (λ i. e₀ i ++ (e₁ i ++ (e₂ i ++ []))) refl $
    enter ! C Λ fn (vptr hp.0 hp.1 ∷ row_val b o n ∷ mark ∷ []) Post $
    alloc_all ! (λ l. pass_all ! refl ((tt, tt), ((tt, words), ((tt, (tt, tt)), tt))) $
    let En : Env 𝓤 𝓛.H = env fn.locals l in
    let y = at_into E 𝓛 𝓜.mem 𝓡.returns κT qT r b o in
    first ! $ blocks ! $ sets ! (of_opd ! (get ! refl)) refl (tt, words) $
    use2 𝓛 (raw ((Into E 𝓛 𝓜.mem 𝓡.returns).pre y)) (Into-goes E 𝓛 𝓜.mem 𝓡.returns κT qT r b o inT) $
    calls_at_last ! (fm 𝓛 𝓜 𝓡) (Into E 𝓛 𝓜.mem 𝓡.returns)
    (callee.met 𝓤 𝓛 𝓜 𝓡 (compiled.calls-core::slots::Slots::into_raw_parts 𝓡.env wired) X LT) y
    (and_then ! (get ! refl) (no_more !)) (λ v.
    use1 𝓛 (later (given (v ≡ row_val b o n) (‵ (all E b o xs fs) ⊛ ‵ (flft κT qT))))
    (Into-gives E 𝓛 𝓜.mem 𝓡.returns κT qT r b o v at) $ await ! tt $ learn ! (λ e. split ! $
    lands_last ! refl (parts_typed v b o n e fk) $ exec ! C Λ En (after 1 fn.body) (at_ret En Post) $
    sets ! (is ! (of_opd ! (get ! refl)) e) refl (tt, words) $
    sets ! (of_opd ! (get_in ! (fld ! refl (stop !)) (sub ! 0 refl (whole !)))) refl (tt, tt) $ sets !
    (of_opd ! (get_in ! (fld ! refl (stop !)) (sub ! 1 refl (whole !)))) refl (tt, record { fits = fk }) $
    use1 𝓛 (‵ (froom (ty_array (elτ E) (length xs)) b o))
    (to_room (el E) 𝓛 b xs fs o (sym (slots_counts r).1 ∙ (slots_counts r).0)) $
    rewrite ! 0 (λ (k : ℕ). ‵ (froom (ty_array (elτ E) k) b o)) (sym (slots_counts r).0) refl $ use1 𝓛
    (‵ (froom (block_ty (el E) n) b o)) (𝓛.laws.room-raw (ty_array (elτ E) n) b o) $
    let y' = at_gives Z 𝓛 𝓜.mem 𝓡.returns κ q hp a b o (n * s) al (block_ty (el E) n) in
    first ! $ blocks ! $ sets ! (of_opd ! (get ! refl)) refl (tt, tt) $
    sets !
    (is !
    (bin ! (get ! refl) (size_word !)
    (record { fits = subst (λ (k : ℕ). k < 2 ^ 64) (sym (uncapped n s bytes)) bytes }))
    (ap (vint w64) (uncapped n s bytes))) refl (tt, record { fits = bytes }) $
    move ! (3 ∷ 4 ∷ []) $ join ! $ move ! (1 ∷ 3 ∷ 0 ∷ []) $
    use3 𝓛 (raw ((Gives Z 𝓛 𝓜.mem 𝓡.returns).pre y'))
    (Gives-goes Z 𝓛 𝓜.mem 𝓡.returns κ q hp a (Incl-trans z.0.2.0 inW) b o (n * s) al (block_ty (el E) n)
    (block_size (el E) n bytes) (block_align (el E) n) bytes (capped_fits (align (elτ E)))) $
    calls_at_last ! (fm 𝓛 𝓜 𝓡) (Gives Z 𝓛 𝓜.mem 𝓡.returns) (met.deallocate dd) y'
    (and_then ! (get ! refl)
    (and_then ! (get ! refl) (and_then ! (get ! refl) (and_then ! (align_word !) (no_more !))))) (λ w.
    use1 𝓛 (later (given (w ≡ vunit) (‵ (flft κ q))))
    (Gives-Gives Z 𝓛 𝓜.mem 𝓡.returns κ q hp a b o (n * s) al (block_ty (el E) n) w) $ await ! tt $ learn ! (λ e'.
    lands_last ! refl (subst (λ (u : Val). T (has_ty ty_unit u) × WT u) (sym e') (tt, tt)) $ exec ! C Λ En
    (after 5 fn.body) (at_ret En Post) $
    sets ! (of_opd ! (unit_lit !)) refl (tt, tt) $ returns ! (look_at ! 0 refl) $ free_all ! refl $ keep !
    (0 ∷ 1 ∷ 2 ∷ []) $
    -- [the handle's token; T's; A's]
    nothing ! $ move ! (3 ∷ 0 ∷ []) $ join ! $ move ! (2 ∷ 0 ∷ []) $ join ! $ move ! (1 ∷ 0 ∷ []) $ join ! $
    nothing ! $ feq_i ! (List Val) (vunit ∷ []) (vunit ∷ []) refl $ nothing ! $ nothing ! $ fjoin ! $ nothing ! $ fjoin
    ! $ nothing ! $ fjoin ! $ move ! (3 ∷ 0 ∷ 1 ∷ 2 ∷ []) $
    by ! (leaves 𝓛 En₀ stays c z vunit tt (tt, (tt, (tt, tt))) (tt, (tt, (tt, tt))))))))))))))))

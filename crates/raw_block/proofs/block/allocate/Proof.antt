-- `allocate` cuts the new block into empty places, and keeps the right to free it. Assumes `Logic`.
use Rattle.std.proofs.Common.{◌≡◌, ℕ, ◌<◌, ◌^◌, ◌*◌, false, true, Bool, List, [], ◌∷◌, ◌++◌, replicate, refl, sym, ap, subst, lit<, w64, arith}
use lib.ListN.{length-replicate}
use mir.Syntax.{Fn, Body, place, ty_array}
use mir.Val.{Val, vint, vptr, vstruct, vcons, vnil, WT}
use mir.MapTy.{inst_fn}
use base.Logic.{SProp, ent, emp}
use base.Fml.{Lft, Share, froom, ftrue, flft, Incl-trans}
use prog.Memory.{align, capped}
use prog.Capped.{capped_fits}
use prog.Wp.{Env, Wp, WpFn, after_seq, at_return}
use contract.BorrowLft.{◌⊑◌}
use contract.Monad.{fact, fact_i}
use contract.Running.{tables}
use types.Kit.{Post as After, any_q, ⋆, ‵, raw, ◌⊛◌, some, given, later, prop, settles, at_ret, ◌$◌, ◌∵◌, !, qed, by, move, keep, use0, use1, use2, use3, split, split3, join, pick, learn, regoal, fsplit, fjoin, feq_l, await}
use types.Part.{whole, agg}
use types.Match.{live, vrt, in_variant}
use types.Run.{stop, fld, of_opd, bin, lit, size_word, align_word, no_more, and_then, first, blocks, switches_on, exec, returns, enter}
use types.ByLocal.{alloc_all, pass_all, free_all, look_at, get, get_in, get_tag, is, sets, sets_last, lands_as, lands_last, env}
use denote.RattleType.{RattleType, owns}
use denote.Laws.{Is}
use denote.RawPtr.{Ptr, block_ptr, InBlock}
use denote.Signature.{types_at}
use denote.Steps.{nothing, heard, owned}
use denote.Struct.Struct.{Struct, Struct-Makes}
use denote.Struct.Declared as Declared
use denote.Struct.Tuple.{Tuple}
use denote.Triple.Call.{calls_at, calls_at_last}
use denote.Triple.Walked.{Stays, stay_dropped, walk_of, Goes-dropped}
use Rattle.core.specs.Mem.Slots.{slots_len, slots_ptr}
use Rattle.core.specs.contracts.result.Result as RS
use Rattle.core.specs.contracts.alloc.AllocError as AE
use Rattle.core.proofs.alloc.Calls.{Al, Answer-typed, Takes, at_takes, Answered, Takes-goes, Takes-gives, answers}
use Rattle.core.proofs.atomic.Steps.{fm}
use Rattle.core.proofs.slots.Opens.{row_val}
use Rattle.core.proofs.slots.Runs.{of_space}
use Rattle.core.proofs.slots.Leases.{uncapped, block_ty, block_size, block_align}
use Rattle.core.proofs.slots.Slots.from_raw_parts.Met as callee
use Rattle.std.proofs.raw_atomic.Walks.{proved_at, leaves}
use Rattle.std.specs.Prelude.{IfOk, Ok, Err}
use Rattle.std.specs.Vec.Ownership.{FitsInBlock}
use Rattle.std_alloc.proofs.RcSteps.{word, word-Good}
use Rattle.std_alloc.proofs.ResultValues.{ok_of, err_of}
use Rattle.std_alloc.proofs.VecSteps.El.{El, R, args, sz, elτ}
use Rattle.std_alloc.proofs.VecSteps.Shapes.{after, head, arm_body}
use Rattle.std_alloc.proofs.vec.Blocks.{el, all}
use Rattle.std_alloc.proofs.vec.Spares.{Row, From, at_from, Made, from_goes, from_gives}
use Rattle.raw_block.specs.Starts.{BeginsAt}
use Rattle.raw_block.proofs.Rows.{slot_at, then_runs, out_of_block, Dd, Mark, mark, mark_made, St, word_made, three_val, three_of}
use Rattle.raw_block.specs.contracts.block.allocate.{ended, clauses}
use Rattle.raw_block.specs.contracts.block.allocate.Key.{name as #self}
use Rattle.raw_block.proofs.block.allocate.Statement.{statement}
use Rattle.raw_block.proofs.block.allocate.Code as compiled

pub allocate_spec : {M : Type 1} → statement M
allocate_spec 𝓤 𝓛 𝓜 𝓡 wired T W LT LW g d dd met md =
    let H = 𝓛.H in
    let Z : Al = record { row = W; laws = LW; g = g; d = d; drops = dd } in
    let E : El = record { row = T; laws = LT; al = Z } in
    let En₀ = ended T W g d dd in
    let c = clauses T W g d dd 𝓛 𝓜.mem 𝓡.returns in
    let fn : Fn = inst_fn (args E) compiled.function in
    let s0 =
    slot_at 0 En₀.signature.params in let s1 =
    slot_at 1 En₀.signature.params in let s2 = slot_at 2 En₀.signature.params in
    let stays :
    Stays En₀.signature.params En₀.kept =
    (stay_dropped s0 En₀.kept.0, (stay_dropped s1 En₀.kept.1.0, (stay_dropped s2 En₀.kept.1.1.0, tt))) in
    let C = (tables 𝓤 H 𝓜 𝓡 𝓡.env).C in
    let Λ = (tables 𝓤 H 𝓜 𝓡 𝓡.env).Λ in
    proved_at 𝓛 En₀ stays c 𝓜 𝓡 (
      Goes-dropped 𝓛 4 s0 En₀.kept.0 (λ κs x f. refl),
      (Goes-dropped 𝓛 4 s1 En₀.kept.1.0 (λ κs x f. refl), (Goes-dropped 𝓛 4 s2 En₀.kept.1.1.0 (λ κs x f. refl), tt)),
    )
    (#self (args E)) fn (compiled.unfolded 𝓤 H 𝓜 𝓡 wired (T, (W, tt)) d dd) (λ z are.
    let Post : Val → SProp 𝓤 = (walk_of 𝓛 En₀ stays c).post z in
    let vss = z.0.4 in
    let κ : Lft = z.0.0.0 in let q : Share = z.0.1.0 in
    let κ₁ : Lft = z.0.0.1.0 in let q₁ : Share = z.0.1.1.0 in
    let κT : Lft = z.0.0.1.1.0 in let qT : Share = z.0.1.1.1.0 in
    let κW : Lft = z.0.0.1.1.1.0 in let qW : Share = z.0.1.1.1.1.0 in
    let hp : ℕ × ℕ = z.0.3.0.ref_ptr in let a : W.Denot = z.0.3.0.now in
    let n : ℕ = z.0.3.1.0 in
    let lp : ℕ × ℕ = z.0.3.1.1.0.ref_ptr in let x : T.Denot = z.0.3.1.1.0.now in
    let xs : List T.Denot = replicate n x in let fs : List Bool = replicate n false in
    let s : ℕ = sz E in let al : ℕ = capped (align (elτ E)) in
    let fits = are.1.0.1 in
    let Asks : Type 0 = FitsInBlock (R E) n in
    let Three : RattleType = Tuple (Row E ∷ St E ∷ Dd E ∷ []) in
    let Out : RattleType = RS.the_row Three AE.the_row in
    let Says :
    Out.Denot → Type 0 =
    λ r. IfOk r
    (λ p. (slots_len p.0 ≡ n) × BeginsAt p.0 p.1 × (p.2.at ≡ slots_ptr p.0) × (p.2.len ≡ n) × (p.2.alloc ≡ a)) in
    let exits :
    (r : Out.Denot) (v : Val) → Says r
    → ent 𝓤
    (⋆ 𝓛 (‵ (Out.own_val r (v ∷ [])) ∷ ‵ (flft κ q) ∷ ‵ (flft κ₁ q₁) ∷ ‵ (flft κT qT) ∷ ‵ (flft κW qW) ∷ []))
    (Post v) = λ r v said.
    qed 𝓛 (‵ (Out.own_val r (v ∷ [])) ∷ ‵ (flft κ q) ∷ ‵ (flft κ₁ q₁) ∷ ‵ (flft κT qT) ∷ ‵ (flft κW qW) ∷ []) ∵
    nothing ! $ move ! (5 ∷ 0 ∷ []) $ join ! $ move ! (4 ∷ 0 ∷ []) $ join ! $ move ! (3 ∷ 0 ∷ []) $ join ! $ move !
    (2 ∷ 0 ∷ []) $ join ! $
    use0 𝓛 (raw (fact 𝓤 (Says r))) (fact_i 𝓤 (Says r) (emp 𝓤) said) $ nothing ! $ nothing ! $ fjoin ! $ nothing ! $
    fjoin ! $ nothing ! $ fjoin ! $ move ! (2 ∷ 0 ∷ 3 ∷ 1 ∷ []) $
    by ! (leaves 𝓛 En₀ stays c z v r (tt, (tt, (tt, tt))) (tt, (tt, (tt, tt)))) in
    qed 𝓛
    (((‵ (flft κ q) ⊛ ‵ (flft κ₁ q₁) ⊛ ‵ (flft κT qT) ⊛ ‵ (flft κW qW) ⊛ ‵ ftrue) ⊛ ‵
    (owns (types_at En₀.signature.params z.0.0) z.0.3 vss))
    ∷ (raw (fact 𝓤 (κT ⊑ T.lives)) ⊛ raw (fact 𝓤 (κW ⊑ W.lives)) ⊛ raw (fact 𝓤 Asks)) ∷ []) ∵
    move ! (1 ∷ []) $ split3 ! $ heard ! (κT ⊑ T.lives) (λ inT. heard ! (κW ⊑ W.lives) (λ inW. heard ! Asks (λ asked.
    let small : n * s < 2 ^ 63 = asked.0 in let bytes : n * s < 2 ^ 64 = omega arith in
    split ! $ split3 ! $ move ! (2 ∷ []) $ split3 ! $ move ! (5 ∷ []) $ fsplit ! $ fsplit ! $ feq_l !
    (λ e₀. keep ! (0 ∷ 5 ∷ 6 ∷ 2 ∷ 3 ∷ []) $
    -- [the handle; its token; the tokens of `_like`, of T and of A]
    regoal ! (λ (us : List Val). prop (WpFn 𝓤 H C Λ fn us Post))
    (λ i. are.0.0 i ++ (are.1.0.0 i ++ (are.1.1.0.0 i ++ []))) refl $
    enter ! C Λ fn (vptr hp.0 hp.1 ∷ vint w64 n ∷ vptr lp.0 lp.1 ∷ []) Post $
    alloc_all ! (λ l. pass_all ! refl ((tt, tt), ((tt, record { fits = fits }), ((tt, tt), tt))) $
    let En : Env 𝓤 𝓛.H = env fn.locals l in
    let both : Body = head (after 2 fn.body) in
    let Then :
    After 𝓤 H =
    any_q (after_seq 𝓤 H (Wp 𝓤 H C Λ En (after 3 fn.body) (at_return 𝓤 H En Post)) (at_return 𝓤 H En Post)) in
    let y = at_takes Z 𝓛 𝓜.mem 𝓡.returns κ q hp a (n * s) al (block_ty (el E) n) in
    sets !
    (is !
    (bin ! (get ! refl) (size_word !)
    (record { fits = subst (λ (k : ℕ). k < 2 ^ 64) (sym (uncapped n s bytes)) bytes }))
    (ap (vint w64) (uncapped n s bytes))) refl (tt, record { fits = bytes }) $
    use2 𝓛 (raw ((Takes Z 𝓛 𝓜.mem 𝓡.returns).pre y))
    (Takes-goes Z 𝓛 𝓜.mem 𝓡.returns κ q hp a (Incl-trans z.0.2.0 inW) (n * s) al (block_ty (el E) n)
    (block_size (el E) n bytes) (block_align (el E) n) bytes (capped_fits (align (elτ E)))) $
    calls_at ! (fm 𝓛 𝓜 𝓡) (Takes Z 𝓛 𝓜.mem 𝓡.returns) (met.allocate dd) y
    (and_then ! (get ! refl) (and_then ! (get ! refl) (and_then ! (align_word !) (no_more !)))) (λ v.
    use1 𝓛 (later (raw (Answered Z 𝓛 𝓜.mem 𝓡.returns a (block_ty (el E) n) v) ⊛ ‵ (flft κ q)))
    (Takes-gives Z 𝓛 𝓜.mem 𝓡.returns κ q hp a (n * s) al (block_ty (el E) n) v) $ await ! tt $ split ! $
    answers Z ! 𝓜.mem 𝓡.returns a (block_ty (el E) n) v
    (λ b o e.
    let words : WT (row_val b o n) = (tt, (record { fits = fits }, tt)) in
    let p : Ptr = block_ptr b o in
    let triple : Val = three_val (row_val b o n) (word p) mark in
    let all_fit :
    WT (live 0 (vcons triple vnil)) = (record { fits = lit< tt }, ((words, ((tt, tt), ((tt, tt), tt))), tt)) in
    let y' = at_from E 𝓛 𝓜.mem 𝓡.returns κT qT b o n xs fs in
    lands_as ! e refl (Answer-typed true b o) $ first ! $ switches_on !
    (get_tag ! (vrt ! refl (fld ! refl (stop !))) (whole !)) $ exec ! C Λ En (arm_body 0 both) Then $
    sets ! (of_opd ! (get_in ! (vrt ! refl (fld ! refl (stop !))) (in_variant ! 0 0 refl refl (whole !)))) refl (tt, tt)
    $ sets ! (of_opd ! (get ! refl)) refl (tt, tt) $
    use1 𝓛 (‵ (froom (ty_array (elτ E) n) b o)) (𝓛.laws.raw-room (ty_array (elτ E) n) b o) $ use1 𝓛
    (‵ (all E b o xs fs)) (of_space (el E) 𝓛 b o n xs (length-replicate n x)) $ move ! (0 ∷ 4 ∷ []) $
    first ! $ blocks ! $
    use2 𝓛 (raw ((From E 𝓛 𝓜.mem 𝓡.returns).pre y'))
    (from_goes E 𝓛 𝓜.mem 𝓡.returns κT qT b o n xs fs inT (sym (length-replicate n x))
    (sym (length-replicate n false)) fits small) $
    calls_at_last ! (fm 𝓛 𝓜 𝓡) (From E 𝓛 𝓜.mem 𝓡.returns)
    (callee.met 𝓤 𝓛 𝓜 𝓡 (compiled.calls-core::slots::Slots::from_raw_parts 𝓡.env wired) T LT) y'
    (and_then ! (get ! refl) (and_then ! (get ! refl) (no_more !))) (λ w.
    use1 𝓛
    (later
    (some
    (λ (r : (Row E).Denot). given ((w ≡ row_val b o n) × Made E 𝓛 𝓜.mem 𝓡.returns κT qT b o n xs fs r)
    (‵ ((Row E).own_val r (row_val b o n ∷ [])) ⊛ ‵ (flft κT qT)))))
    (from_gives E 𝓛 𝓜.mem 𝓡.returns κT qT b o n xs fs w) $
    await ! tt $ pick ! (λ r. learn ! (λ made. split ! $
    let start : (St E).Denot = record { ptr = p } in
    let deed : (Dd E).Denot = record { mark = record {}; at = p; len = n; alloc = a } in
    regoal !
    (λ (u : Val). settles En (place 11 []) u (out_of_block 𝓛 (then_runs 𝓛 C Λ En (after 3 (arm_body 0 both)) Then)))
    (made.0) refl $ lands_last ! refl (tt, words) $
    exec ! C Λ En (after 3 (arm_body 0 both)) Then $
    sets ! (of_opd ! (get ! refl)) refl (tt, words) $ sets ! (of_opd ! (get ! refl)) refl (tt, words) $
    sets ! (agg ! (and_then ! (get ! refl) (no_more !))) refl (word-Good [] p) $
    sets ! (agg ! (no_more !)) refl (tt, tt) $ sets ! (agg ! (and_then ! (get ! refl) (no_more !))) refl
    (tt, (tt, tt)) $
    sets ! (agg ! (and_then ! (get ! refl) (and_then ! (get ! refl) (and_then ! (get ! refl) (no_more !))))) refl
    (tt, (words, ((tt, tt), ((tt, tt), tt)))) $
    sets_last ! (agg ! (and_then ! (lit ! tt) (and_then ! (get ! refl) (no_more !)))) refl (tt, all_fit) $
    exec ! C Λ En (after 3 fn.body) (at_ret En Post) $ sets ! (of_opd ! (get ! refl)) refl (tt, all_fit) $
    -- [the row; T's token; the right to free the block; the other tokens]
    move ! (2 ∷ []) $ use0 𝓛 (‵ ((Mark E).own_val (tt, tt) (mark ∷ []))) (mark_made E 𝓛) $ fjoin ! $
    word_made ! p $ move ! (2 ∷ 0 ∷ 1 ∷ []) $
    use3 𝓛 (‵ (Three.own_val (r, start, deed) (triple ∷ [])))
    (three_of 𝓛 (Row E) (St E) (Dd E) r start deed (row_val b o n) (word p) mark) $
    use1 𝓛 (‵ (Out.own_val (Ok (r, start, deed)) (live 0 (vcons triple vnil) ∷ [])))
    (ok_of 𝓛 Three AE.the_row (r, start, deed) triple) $
    returns ! (look_at ! 0 refl) $ free_all ! refl $ keep ! (0 ∷ 2 ∷ 3 ∷ 1 ∷ 4 ∷ []) $ by !
    (exits (Ok (r, start, deed)) (live 0 (vcons triple vnil))
    (made.1.1, (subst InBlock (sym made.1.0) tt, sym made.1.0), sym made.1.0, refl, refl))))))
    (λ e.
    let Refusal : RattleType = Struct (Declared.shape AE.the_type) in
    let none : Val = live 1 (vcons (vstruct vnil) vnil) in
    lands_as ! e refl (Answer-typed false 0 0) $ first ! $ switches_on !
    (get_tag ! (vrt ! refl (fld ! refl (stop !))) (whole !)) $ exec ! C Λ En (arm_body 1 both) Then $
    sets !
    (of_opd ! (get_in ! (vrt ! refl (fld ! refl (stop !))) (in_variant ! 1 0 refl refl (whole !)))) refl (tt, tt) $
    sets_last ! (agg ! (and_then ! (lit ! tt) (and_then ! (get ! refl) (no_more !)))) refl
    (tt, (record { fits = lit< tt }, (tt, tt))) $
    exec ! C Λ En (after 3 fn.body) (at_ret En Post) $ sets ! (of_opd ! (get ! refl)) refl
    (tt, (record { fits = lit< tt }, (tt, tt))) $
    owned ! Refusal (Is Refusal) (Struct-Makes 𝓛 (Declared.shape AE.the_type) tt) tt (vstruct vnil ∷ [])
    (tt, (refl, tt)) $
    use1 𝓛 (‵ (Out.own_val (Err (record {})) (none ∷ []))) (err_of 𝓛 Three AE.the_row (record {}) (vstruct vnil)) $
    returns ! (look_at ! 0 refl) $ free_all ! refl $ keep ! (0 ∷ 1 ∷ 2 ∷ 3 ∷ 4 ∷ []) $ by !
    (exits (Err (record {})) none tt)))))))))

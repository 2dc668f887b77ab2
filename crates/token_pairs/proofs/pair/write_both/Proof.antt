-- With both halves of a name its value is read and set.
use Rattle.std.proofs.Common.{◌≡◌, ℕ, List, [], ◌∷◌, refl, sym}
use mir.Syntax.{a_type, named}
use mir.Val.{Val, vunit, vptr}
use mir.MapTy.{inst_fn}
use base.Logic.{SProp, emp}
use base.Fml.{ftrue, fsep, flft}
use types.Kit.{‵, raw, ◌⊛◌, ◌$◌, ◌∵◌, !, qed, by, move, keep, drop, use0, split, split3, join, rewrite, fsplit, fsplit3, fjoin, fjoin3, feq_i}
use types.Run.{unit_lit, of_opd, returns, enter}
use types.ByLocal.{alloc_all, pass_all, free_all, look_at, sets}
use types.Tokens.{name_agree, name_set}
use contract.Running.{tables}
use contract.Monad.{fact, fact_i}
use denote.Exit.{yes}
use denote.RattleType.{RattleType, owns}
use denote.Signature.{types_at, plain}
use denote.Steps.{nothing, heard, opens, closes}
use denote.Builtin.{RefOf}
use denote.Param.{param, layouts}
use denote.Ref.{shr_vals, shr_Tells, mut_vals, mut_Tells}
use denote.Triple.Walked.{Stays, stay_dropped, stay_ref, walk_of, Goes-dropped, Goes-ref}
use Rattle.std.proofs.raw_atomic.Walks.{proved, leaves}
use Rattle.token_pairs.specs.Inside.Halves.{slip_owns}
use Rattle.token_pairs.specs.contracts.pair.Stub as Stub
use Rattle.token_pairs.specs.contracts.pair.Slip as Slip
use Rattle.token_pairs.specs.contracts.pair.write_both.{ended, clauses}
use Rattle.token_pairs.specs.contracts.pair.write_both.Key.{name as #self}
use Rattle.token_pairs.proofs.pair.write_both.Statement.{statement}
use Rattle.token_pairs.proofs.pair.write_both.Code as code

pub write_both_spec : {M : Type 1} → statement M
write_both_spec 𝓤 𝓛 𝓜 𝓡 wired T L =
    let H = 𝓛.H in
    let 𝓣 = tables 𝓤 H 𝓜 𝓡 𝓡.env in
    let R : RattleType = param 0 T in
    let En = ended T in
    let A : RattleType = Stub.the_row R in
    let B : RattleType = Slip.the_row R in
    let inst = layouts (a_type ∷ []) (T, tt) in
    let fn = inst_fn inst code.function in
    let c = clauses T 𝓛 𝓜.mem 𝓡.returns in
    let value = RefOf (2 ∷ []) tt (plain (λ _. R)) (λ _. tt) in
    let hs :
    Stays En.signature.params En.kept =
    (stay_ref (0 ∷ []) tt (plain (λ _. A)), (stay_ref (1 ∷ []) tt (plain (λ _. B)), (stay_dropped value yes, tt))) in
    proved 𝓛 En hs c 𝓜 𝓡 (
      Goes-ref 𝓛 4 0 tt (plain (λ _. A)),
      (Goes-ref 𝓛 4 1 tt (plain (λ _. B)), (Goes-dropped 𝓛 4 value yes (λ κs x f. refl), tt)),
    ) (#self inst) fn
    (code.unfolded 𝓤 H 𝓜 𝓡 wired (T, tt))
    (λ κs. (mut_vals, (mut_vals, (shr_vals, tt))))
    (λ κs. (mut_Tells (named 0) κs.0 A, (mut_Tells (named 1) κs.1.0 B, (shr_Tells (named 2) κs.1.1.0 R, tt))))
    (λ κs qs bounds a gh are.
    let m = a.0 in
    let n = a.1.0 in
    let u : Val = vptr m.ref_ptr.0 m.ref_ptr.1 in
    let w : Val = vptr n.ref_ptr.0 n.ref_ptr.1 in
    let p : Val = vptr a.1.1.0.ref_ptr.0 a.1.1.0.ref_ptr.1 in
    let s = m.now in
    let t = n.now in
    let x = a.1.1.0.now in
    let Asks : Type 0 = t.name ≡ s.name in
    let y : (walk_of 𝓛 En hs c).Ghost = ((κs, qs, bounds, a, (u ∷ [], (w ∷ [], (p ∷ [], tt)))), gh) in
    let Post : Val → SProp 𝓤 = (walk_of 𝓛 En hs c).post y in
    let s' : A.Denot = record { marker = s.marker; name = s.name; value = x } in
    let t' : B.Denot = record { marker = t.marker; name = t.name; value = x } in
    let Said : Type 0 = (t.value ≡ s.value) × (s' ≡ s') × (t' ≡ t') in
    qed 𝓛
    (((‵ (flft κs.0 qs.0) ⊛ ‵ (flft κs.1.0 qs.1.0) ⊛ ‵
    (fsep (flft κs.1.1.0 qs.1.1.0) (fsep (flft κs.1.1.1.0 qs.1.1.1.0) ftrue)))
    ⊛ ‵ (owns (types_at En.signature.params κs) a y.0.4))
    ∷ raw (fact 𝓤 _) ∷ raw (fact 𝓤 Asks) ∷ []) ∵ keep ! (2 ∷ 0 ∷ []) $
    heard ! Asks (λ asks. split ! $ split3 ! $ move ! (3 ∷ []) $ fsplit ! $ fsplit3 ! $ drop ! $
    move ! (2 ∷ []) $ fsplit ! $ fsplit3 ! $ drop ! $ keep ! (3 ∷ 4 ∷ 5 ∷ 0 ∷ 1 ∷ 6 ∷ 7 ∷ []) $
    -- [the borrow of the stub, and its token; that of the slip, and its token; the other tokens]
    enter ! 𝓣.C 𝓣.Λ fn (u ∷ w ∷ p ∷ []) Post $ alloc_all !
    (λ l. pass_all ! refl ((tt, tt), ((tt, tt), ((tt, tt), tt))) $
    opens ! tt A m.ref_ptr.0 m.ref_ptr.1 (λ cs. move ! (5 ∷ 6 ∷ 7 ∷ []) $
    opens ! tt B n.ref_ptr.0 n.ref_ptr.1 (λ ds. move ! (1 ∷ []) $ fsplit ! $ move ! (7 ∷ []) $ fsplit ! $
    move ! (3 ∷ 1 ∷ []) $
    -- [the slip's half; the stub's half; what else the stub owns; what else the slip owns]
    rewrite ! 0 (λ (γ : ℕ). ‵ (slip_owns R γ t.value)) asks refl $
    name_agree ! R.coded (λ same. name_set ! tt (R.coded.code x) $
    rewrite ! 0 (λ (γ : ℕ). ‵ (slip_owns R γ x)) (sym asks) refl $
    move ! (2 ∷ 1 ∷ []) $ fjoin ! $ move ! (2 ∷ 1 ∷ []) $ fjoin ! $
    move ! (2 ∷ 0 ∷ 3 ∷ 4 ∷ 5 ∷ []) $ closes ! tt B t' ds n.ref_ptr.0 n.ref_ptr.1 $
    move ! (4 ∷ 3 ∷ 5 ∷ 6 ∷ 7 ∷ []) $ closes ! tt A s' cs m.ref_ptr.0 m.ref_ptr.1 $
    sets ! (of_opd ! (unit_lit !)) refl (tt, tt) $ returns ! (look_at ! 0 refl) $ free_all ! refl $
    feq_i ! (List Val) (u ∷ []) (u ∷ []) refl $ fjoin3 ! $ move ! (2 ∷ 3 ∷ []) $
    feq_i ! (List Val) (w ∷ []) (w ∷ []) refl $ fjoin3 ! $ nothing ! $ nothing ! $ fjoin ! $
    move ! (1 ∷ 0 ∷ []) $ fjoin ! $ move ! (1 ∷ 0 ∷ []) $ fjoin ! $
    feq_i ! (List Val) (vunit ∷ []) (vunit ∷ []) refl $
    move ! (3 ∷ 4 ∷ []) $ join ! $ move ! (3 ∷ 0 ∷ []) $ join ! $
    -- [the tokens; the result; what is left of the parameters]
    use0 𝓛 (raw (fact 𝓤 Said)) (fact_i 𝓤 Said (emp 𝓤) (same, refl, refl)) $
    keep ! (1 ∷ 3 ∷ 2 ∷ 0 ∷ []) $
    by ! (leaves 𝓛 En hs c y vunit tt (s', (t', (tt, tt))) (tt, (tt, (tt, tt))))))))))

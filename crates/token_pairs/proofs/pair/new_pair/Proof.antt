-- A new name is made, with its two halves.
use Rattle.std.proofs.Common.{◌≡◌, List, [], ◌∷◌, ◌++◌, refl}
use mir.Syntax.{a_type, named}
use mir.Val.{Val, vptr, vstruct, vcons, vnil, of_list}
use mir.MapTy.{inst_fn}
use base.Logic.{SProp, emp}
use base.Fml.{fsep, feq}
use types.Kit.{‵, raw, ◌⊛◌, ◌$◌, ◌∵◌, !, qed, by, move, keep, use0, use1, split, fjoin, fjoin3, fpack, feq_i}
use types.Run.{no_more, and_then, returns, enter}
use types.ByLocal.{alloc_all, pass_all, free_all, look_at, get, sets}
use types.Part.{agg}
use types.Tokens.{name_new}
use contract.Running.{tables}
use contract.Monad.{fact, fact_i}
use denote.Exit.{yes}
use denote.RattleType.{RattleType, Valss, owns}
use denote.Signature.{types_at, plain}
use denote.Steps.{nothing}
use denote.Builtin.{RefOf}
use denote.Param.{param, layouts}
use denote.Ref.{shr_vals, shr_Tells}
use denote.Triple.Walked.{Stays, stay_dropped, walk_of, Goes-dropped}
use Rattle.std.proofs.raw_atomic.Walks.{proved, leaves}
use Rattle.token_pairs.specs.contracts.pair.Stub as Stub
use Rattle.token_pairs.specs.contracts.pair.Slip as Slip
use Rattle.token_pairs.proofs.Halves.{token, a_stub, a_slip, stub_made, slip_made}
use Rattle.token_pairs.specs.contracts.pair.new_pair.{ended, clauses}
use Rattle.token_pairs.specs.contracts.pair.new_pair.Key.{name as #self}
use Rattle.token_pairs.proofs.pair.new_pair.Statement.{statement}
use Rattle.token_pairs.proofs.pair.new_pair.Code as code

pub new_pair_spec : {M : Type 1} → statement M
new_pair_spec 𝓤 𝓛 𝓜 𝓡 wired T L =
    let H = 𝓛.H in
    let 𝓣 = tables 𝓤 H 𝓜 𝓡 𝓡.env in
    let R : RattleType = param 0 T in
    let En = ended T in
    let A : RattleType = Stub.the_row R in
    let B : RattleType = Slip.the_row R in
    let inst = layouts (a_type ∷ []) (T, tt) in
    let fn = inst_fn inst code.function in
    let c = clauses T 𝓛 𝓜.mem 𝓡.returns in
    let value = RefOf (0 ∷ []) tt (plain (λ _. R)) (λ _. tt) in
    let hs : Stays En.signature.params En.kept = (stay_dropped value yes, tt) in
    proved 𝓛 En hs c 𝓜 𝓡 (Goes-dropped 𝓛 2 value yes (λ κs x f. refl), tt) (#self inst) fn
    (code.unfolded 𝓤 H 𝓜 𝓡 wired (T, tt))
    (λ κs. (shr_vals, tt)) (λ κs. (shr_Tells (named 0) κs.0 R, tt)) (λ κs qs bounds a gh are.
    let p : Val = vptr a.0.ref_ptr.0 a.0.ref_ptr.1 in
    let x = a.0.now in
    let v : Val = vstruct (vcons token (vcons token vnil)) in
    let y : (walk_of 𝓛 En hs c).Ghost = ((κs, qs, bounds, a, (p ∷ [], tt)), gh) in
    let Post : Val → SProp 𝓤 = (walk_of 𝓛 En hs c).post y in
    qed 𝓛
    ((raw (denote.Triple.Entry.alive 𝓛 En.signature κs qs) ⊛ ‵ (owns (types_at En.signature.params κs) a y.0.4))
    ∷ raw ((c κs a).requires gh) ∷ []) ∵ split ! $ keep ! (0 ∷ []) $
    enter ! 𝓣.C 𝓣.Λ fn (p ∷ []) Post $ alloc_all ! (λ l. pass_all ! refl ((tt, tt), tt) $
    sets ! (agg ! (no_more !)) refl (tt, tt) $
    sets ! (agg ! (and_then ! (get ! refl) (no_more !))) refl (tt, (tt, tt)) $
    sets ! (agg ! (no_more !)) refl (tt, tt) $
    sets ! (agg ! (and_then ! (get ! refl) (no_more !))) refl (tt, (tt, tt)) $
    sets ! (agg ! (and_then ! (get ! refl) (and_then ! (get ! refl) (no_more !)))) refl
    (tt, ((tt, tt), ((tt, tt), tt))) $
    name_new ! tt (R.coded.code x) (λ γ.
    let r : A.Denot × B.Denot = (a_stub 𝓛 R γ x, a_slip 𝓛 R γ x) in
    let Said : Type 0 = (γ ≡ γ) × (x ≡ x) × (x ≡ x) in
    returns ! (look_at ! 0 refl) $ free_all ! refl $
    use1 𝓛 (‵ (B.own_val r.1 (token ∷ []))) (slip_made 𝓛 R γ x) $ move ! (1 ∷ []) $
    use1 𝓛 (‵ (A.own_val r.0 (token ∷ []))) (stub_made 𝓛 R γ x) $ nothing ! $ move ! (1 ∷ 2 ∷ 0 ∷ []) $ fjoin3 ! $
    feq_i ! (List Val) (v ∷ []) (v ∷ []) refl $ fjoin ! $
    fpack ! (Valss (A ∷ B ∷ []))
    (λ vss. fsep (feq (List Val) (v ∷ []) (vstruct (of_list (vss.0 ++ (vss.1.0 ++ []))) ∷ []))
    (owns (A ∷ B ∷ []) (r.0, (r.1, tt)) vss)) (token ∷ [], (token ∷ [], tt)) $
    -- [the pair; the tokens]
    use0 𝓛 (raw (fact 𝓤 Said)) (fact_i 𝓤 Said (emp 𝓤) (refl, refl, refl)) $ nothing ! $ nothing ! $ fjoin ! $
    keep ! (3 ∷ 0 ∷ 2 ∷ 1 ∷ []) $
    by ! (leaves 𝓛 En hs c y v r (tt, tt) (tt, tt)))))

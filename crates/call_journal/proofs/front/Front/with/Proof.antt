-- A front with the cell of a note.
use Rattle.std.proofs.Common.{◌≡◌, ℕ, List, [], ◌∷◌, ◌++◌, refl, ap, Some}
use mir.Syntax.{a_type, named}
use mir.Val.{Val, vptr}
use mir.MapTy.{inst_fn}
use base.Logic.{SProp, emp, apply∗, all, all_e}
use base.Fml.{Lft, Share, Fml, ftrue, fsep, flft}
use types.Logic.{sem}
use types.Kit.{‵, raw, ◌⊛◌, later, ◌$◌, ◌∵◌, !, qed, by, move, keep, drop, use0, use1, use2, split, split3, join, fsplit, fsplit3, fjoin, await, feq_i}
use types.Run.{no_more, and_then, returns, enter}
use types.ByLocal.{alloc_all, pass_all, free_all, look_at, get, sets}
use types.Part.{agg}
use contract.Running.{tables}
use contract.Monad.{fact, fact_i}
use denote.Exit.{yes}
use denote.RattleType.{RattleType, owns}
use denote.Signature.{types_at, plain}
use denote.Steps.{nothing}
use denote.Opens.{unhide}
use denote.Builtin.{RefOf}
use denote.Param.{param, layouts}
use denote.Ref.{shr_vals, shr_Tells, mut_vals, mut_Tells}
use denote.Triple.Walked.{Stays, stay_dropped, stay_ref, walk_of, Goes-dropped, Goes-ref}
use Rattle.std.proofs.raw_atomic.Walks.{proved, leaves}
use Rattle.call_journal.specs.Inside.Known.{known}
use Rattle.call_journal.specs.contracts.front.Front as Front
use Rattle.call_journal.proofs.FrontLemmas.{token, more, front_made, known_more}
use Rattle.once_cell.specs.Once.{noted}
use Rattle.once_cell.proofs.Notes as notes
use Rattle.once_cell.proofs.Notes.{Note}
use Rattle.call_journal.specs.contracts.front.Front.with.{ended, clauses}
use Rattle.call_journal.specs.contracts.front.Front.with.Key.{name as #self}
use Rattle.call_journal.proofs.front.Front.with.Statement.{statement}
use Rattle.call_journal.proofs.front.Front.with.Code as code

pub with_spec : {M : Type 1} → statement M
with_spec 𝓤 𝓛 𝓜 𝓡 wired T L =
    let H = 𝓛.H in
    let 𝓣 = tables 𝓤 H 𝓜 𝓡 𝓡.env in
    let R : RattleType = param 0 T in
    let En = ended T in
    let S : RattleType = Front.the_row R in
    let inst = layouts (a_type ∷ []) (T, tt) in
    let fn = inst_fn inst code.function in
    let c = clauses T 𝓛 𝓜.mem 𝓡.returns in
    let self = RefOf (0 ∷ []) tt (plain (λ _. S)) (λ _. tt) in
    let hs : Stays En.signature.params En.kept =
    (stay_dropped self yes, (stay_ref (1 ∷ []) tt (plain (λ _. Note 𝓛 R)), tt)) in
    proved 𝓛 En hs c 𝓜 𝓡 (Goes-dropped 𝓛 3 self yes (λ κs x f. refl), (Goes-ref 𝓛 3 1 tt (plain (λ _. Note 𝓛 R)), tt))
    (#self inst) fn (code.unfolded 𝓤 H 𝓜 𝓡 wired (T, tt))
    (λ κs. (shr_vals, (mut_vals, tt))) (λ κs. (shr_Tells (named 0) κs.0 S, (mut_Tells (named 1) κs.1.0 (Note 𝓛 R), tt)))
    (λ κs qs bounds a gh are.
    let p : Val = vptr a.0.ref_ptr.0 a.0.ref_ptr.1 in
    let m = a.1.0 in
    let nb : ℕ = m.ref_ptr.0 in
    let no : ℕ = m.ref_ptr.1 in
    let ν : ℕ = m.ghost_name in
    let n = m.now in
    let κ : Lft = κs.1.0 in
    let q : Share = qs.1.0 in
    let cs : List (ℕ × T.Denot) = a.0.now.seen in
    let ds = more cs n.cell n.known in
    let r : S.Denot = record { marker = record {}; seen = ds } in
    let More : Type 0 = (x : T.Denot) → n.known ≡ Some x → ds ≡ cs ++ (n.cell, x) ∷ [] in
    let Shuts = notes.Shuts 𝓛 R κ q nb no ν in
    let N : Fml = noted R n.cell n.known in
    let K : Fml = known R cs in
    let y : (walk_of 𝓛 En hs c).Ghost = ((κs, qs, bounds, a, (p ∷ [], (vptr nb no ∷ [], tt))), gh) in
    let Post : Val → SProp 𝓤 = (walk_of 𝓛 En hs c).post y in
    qed 𝓛
    (((‵ (flft κs.0 qs.0) ⊛ ‵ (flft κ q) ⊛ ‵ (fsep (flft κs.1.1.0 qs.1.1.0) ftrue)) ⊛ ‵
    (owns (types_at En.signature.params κs) a y.0.4)) ∷ raw ((c κs a).requires gh) ∷ []) ∵
    split ! $ split3 ! $ move ! (3 ∷ []) $ fsplit3 ! $
    -- [the front; the note; nothing; the tokens; the `requires`]
    fsplit ! $ move ! (1 ∷ []) $ unhide ! $ fsplit ! $ drop ! $ move ! (2 ∷ []) $ fsplit ! $
    keep ! (1 ∷ 6 ∷ 2 ∷ 5 ∷ 7 ∷ []) $
    -- [the note's borrow; its token; what the front knows; the other tokens]
    enter ! 𝓣.C 𝓣.Λ fn (p ∷ vptr nb no ∷ []) Post $ alloc_all ! (λ l. pass_all ! refl ((tt, tt), ((tt, tt), tt)) $
    use2 𝓛 (later (‵ N ⊛ raw (all 𝓤 Shuts))) (notes.note_opens 𝓛 R κ q nb no ν n) $ await ! tt $ split ! $
    use1 𝓛 (‵ N ⊛ ‵ N) (notes.noted_twice 𝓛 R n.cell n.known) $ split ! $
    move ! (3 ∷ 0 ∷ []) $ use2 𝓛 (‵ (known R ds)) (known_more 𝓛 R cs n.cell n.known) $
    use1 𝓛 (‵ (S.own_val r (token ∷ []))) (front_made 𝓛 R ds) $
    -- [the new front; what the note knows; how it is shut; the other tokens]
    move ! (2 ∷ []) $ use1 𝓛 (raw (Shuts n)) (all_e 𝓤 Shuts n) $ move ! (2 ∷ 0 ∷ []) $
    use2 𝓛 (later (‵ (notes.lent 𝓛 R κ q nb no ν n) ⊛ ‵ (flft κ q))) (apply∗ 𝓤 (sem 𝓛 N) _) $ await ! tt $ split ! $
    -- [the note's borrow; its token; the new front; the other tokens]
    feq_i ! (List Val) (vptr nb no ∷ []) (vptr nb no ∷ []) refl $ fjoin ! $ nothing ! $ move ! (1 ∷ 0 ∷ []) $
    fjoin ! $ nothing ! $ fjoin ! $ move ! (1 ∷ 4 ∷ []) $ join ! $ move ! (3 ∷ 0 ∷ []) $ join ! $
    sets ! (agg ! (no_more !)) refl (tt, tt) $
    sets ! (agg ! (and_then ! (get ! refl) (no_more !))) refl (tt, (tt, tt)) $
    use0 𝓛 (raw (fact 𝓤 More)) (fact_i 𝓤 More (emp 𝓤) (λ x e. ap (λ k. more cs n.cell k) e)) $
    use0 𝓛 (raw (fact 𝓤 (n ≡ n))) (fact_i 𝓤 (n ≡ n) (emp 𝓤) refl) $ join ! $
    returns ! (look_at ! 0 refl) $ free_all ! refl $ keep ! (1 ∷ 2 ∷ 3 ∷ 0 ∷ []) $
    by ! (leaves 𝓛 En hs c y token r (tt, (n, tt)) (tt, (tt, tt)))))

-- What the walks share. Assumes `Logic`.
use Rattle.std.proofs.Common.{◌≡◌, ℕ, zero, suc, List, [], ◌∷◌, ◌++◌, refl, subst}
use seplogic.Ra.Ura.{Ura}
use mir.Syntax.{Body}
use mir.Val.{Val, vstruct, vcons, vnil, of_list}
use base.Logic.{ent, sep, emp}
use prog.Wp.{Env, Calls, Loops, Wp, after_seq, after_block}
use types.Logic.{Logic, sem}
use types.Kit.{Post, any_q, post, Item, Goal, Seq, Step, step, ‵, ◌$◌, ◌∵◌, !, qed, move, done, drop, fpick, fpack, fsplit, fjoin, feq_i, feq_l}
use denote.Builtin.{unit}
use denote.RattleType.{RattleType, Valss}
use denote.RawPtr.{Ptr, RawPtr, ptr_val}
use denote.Shadow.{makes_shadow}
use denote.Signature.{Slot, plain}
use denote.Steps.{nothing}
use denote.Struct.Struct.{Shape, Struct, within}
use denote.Struct.Owning.{shape}
use denote.Struct.Declared as Declared
use denote.Struct.Tuple.{Tuple, tuple_type}
use Rattle.std_alloc.proofs.RcSteps.{word}
use Rattle.std_alloc.proofs.VecSteps.El.{El, R, P}
use Rattle.raw_block.specs.contracts.block.Deed as D-type
use Rattle.raw_block.specs.contracts.block.Start as S-type

abbrev pub slot_at : {n : ℕ} → ℕ → List (Slot n) → Slot n
slot_at k [] = plain (λ _. unit)
slot_at zero (s ∷ ss) = s
slot_at (suc k) (s ∷ ss) = slot_at k ss

module _ {M : Type 1} {𝓤 : Ura M} (𝓛 : Logic 𝓤) where
  open 𝓛 use {H}

  abbrev pub then_runs : Calls 𝓤 H → Loops 𝓤 H → Env 𝓤 H → Body → Post 𝓤 H → Post 𝓤 H
  then_runs C Λ E b q = any_q (after_seq 𝓤 H (Wp 𝓤 H C Λ E b (post 𝓤 H q)) (post 𝓤 H q))

  abbrev pub out_of_block : Post 𝓤 H → Post 𝓤 H
  out_of_block q = any_q (after_block 𝓤 H (post 𝓤 H q))

-- the one field of a `Deed`, which takes no bytes
abbrev pub mark : Val
mark = vstruct (vcons (vstruct vnil) vnil)

module _ (E : El) where
  abbrev pub Dd : RattleType
  Dd = D-type.the_row (R E) (P E) E.al.g

  abbrev pub Mark : RattleType
  Mark = Struct (shape (D-type.the_type (R E) (P E) E.al.g))

  pub mark_made : {M : Type 1} {𝓤 : Ura M} (𝓛 : Logic 𝓤) → ent 𝓤 (emp 𝓤) (sem 𝓛 (Mark.own_val (tt, tt) (mark ∷ [])))
  mark_made 𝓛 =
      makes_shadow 𝓛 (Mark.own_val (tt, tt) (mark ∷ [])) (λ vss. (tt, ((λ uss. (tt, tt)), tt)))
      ((vstruct vnil ∷ [], tt), (refl, ((tt, (refl, tt)), tt)))

module _ (E : El) {M : Type 1} {𝓤 : Ura M} {𝓛 : Logic 𝓤} {K : Type 0} {Γ : List (Item 𝓤)} {G : Goal 𝓤 𝓛.H} where
  pub mark_had : K → (vs : List Val) → (vs ≡ mark ∷ [] → Seq K 𝓛 Γ G) → Seq K 𝓛 (‵ ((Mark E).own_val (tt, tt) vs) ∷ Γ) G
  mark_had t vs k =
      fpick t (λ vss. fsplit t $ feq_l t (λ ev. fsplit t $ fpick t (λ uss. fsplit t $ feq_l t (λ e. drop t $ drop t $
      k (subst (λ (ws : List Val). vs ≡ vstruct (of_list (ws ++ [])) ∷ []) e ev)))))

-- ---- where a row begins: one pointer

module _ (E : El) where
  abbrev pub St : RattleType
  St = S-type.the_row (R E)

abbrev one_field : Shape
one_field = record { name = []; args = []; types = []; fields = RawPtr ∷ [] }

module _ {M : Type 1} {𝓤 : Ura M} {𝓛 : Logic 𝓤} {K : Type 0} {Γ : List (Item 𝓤)} {G : Goal 𝓤 𝓛.H} where
  pub word_had : K → (c : Ptr) (vs : List Val) → (vs ≡ word c ∷ [] → Seq K 𝓛 Γ G)
      → Seq K 𝓛 (‵ ((Struct one_field).own_val (c, tt) vs) ∷ Γ) G
  word_had t c vs k =
      fpick t (λ vss. fsplit t $ feq_l t (λ ev. fsplit t $ feq_l t (λ e. drop t $
      k (subst (λ (ws : List Val). vs ≡ vstruct (of_list (ws ++ [])) ∷ []) e ev))))

  pub word_made : K → (c : Ptr) → Step K 𝓛 (‵ ((Struct one_field).own_val (c, tt) (word c ∷ [])) ∷ Γ) G Γ G
  word_made t c = step (λ s.
      nothing t $ feq_i t (List Val) (ptr_val c ∷ []) (ptr_val c ∷ []) refl $ fjoin t $ feq_i t (List Val) (word c ∷ [])
      (word c ∷ []) refl $ fjoin t $
      fpack t (Valss (RawPtr ∷ [])) (within one_field (c, tt) (word c ∷ [])) (ptr_val c ∷ [], tt) $ s)

-- ---- three values

abbrev pub three_val : Val → Val → Val → Val
three_val u v w = vstruct (vcons u (vcons v (vcons w vnil)))

pub three_of :
    {M : Type 1} {𝓤 : Ura M} (𝓛 : Logic 𝓤) (A B C : RattleType) (x : A.Denot) (y : B.Denot) (z : C.Denot) (u v w : Val)
    → ent 𝓤 (sep 𝓤 (sem 𝓛 (A.own_val x (u ∷ []))) (sep 𝓤 (sem 𝓛 (B.own_val y (v ∷ []))) (sem 𝓛 (C.own_val z (w ∷ [])))))
    (sem 𝓛 ((Tuple (A ∷ B ∷ C ∷ [])).own_val (x, y, z) (three_val u v w ∷ [])))
three_of 𝓛 A B C x y z u v w =
    qed 𝓛 (‵ (A.own_val x (u ∷ [])) ∷ ‵ (B.own_val y (v ∷ [])) ∷ ‵ (C.own_val z (w ∷ [])) ∷ []) ∵ nothing ! $ move !
    (3 ∷ 0 ∷ []) $ fjoin ! $ move ! (2 ∷ 0 ∷ []) $ fjoin ! $ move ! (1 ∷ 0 ∷ []) $ fjoin ! $
    feq_i ! (List Val) (three_val u v w ∷ []) (three_val u v w ∷ []) refl $ fjoin ! $
    fpack ! (Valss (A ∷ B ∷ C ∷ []))
    (within (Declared.shape (tuple_type (A ∷ B ∷ C ∷ []))) (x, (y, (z, tt))) (three_val u v w ∷ []))
    (u ∷ [], (v ∷ [], (w ∷ [], tt))) $ done !

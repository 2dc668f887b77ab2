-- The machine value of a token, and what it owns. Assumes `Logic`.
use Rattle.std.proofs.Common.{ℕ, List, [], ◌∷◌, ◌++◌, refl, ap, ◌∙◌}
use seplogic.Ra.Ura.{Ura}
use mir.Val.{Val, vstruct, vcons, vnil, of_list}
use base.Logic.{ent}
use types.Logic.{Logic, sem}
use types.Kit.{‵, ◌$◌, ◌∵◌, !, qed, use0, done}
use denote.RattleType.{RattleType}
use denote.Laws.{Is, Tells}
use denote.Shadow.{makes_shadow}
use denote.Struct.Struct.{Struct}
use denote.Struct.Owning.{shape}
use Rattle.token_pairs.specs.Inside.Halves.{stub_owns, slip_owns}
use Rattle.token_pairs.specs.contracts.pair.Stub as Stub
use Rattle.token_pairs.specs.contracts.pair.Slip as Slip

abbrev pub token : Val
token = vstruct (vcons (vstruct vnil) vnil)

module _ {M : Type 1} {𝓤 : Ura M} (𝓛 : Logic 𝓤) (R : RattleType) (γ : ℕ) (x : R.Denot) where
  abbrev pub a_stub : (Stub.the_row R).Denot
  a_stub = record { marker = record {}; name = γ; value = x }

  abbrev pub a_slip : (Slip.the_row R).Denot
  a_slip = record { marker = record {}; name = γ; value = x }

  pub stub_made : ent 𝓤 (sem 𝓛 (stub_owns R γ x)) (sem 𝓛 ((Stub.the_row R).own_val a_stub (token ∷ [])))
  stub_made = let F = (Struct (shape (Stub.the_type R))).own_val (tt, tt) (token ∷ []) in
      qed 𝓛 (‵ (stub_owns R γ x) ∷ []) ∵
      use0 𝓛 (‵ F)
      (makes_shadow 𝓛 F (λ vss. (tt, ((λ uss. (tt, tt)), tt)))
      ((vstruct vnil ∷ [], tt), (refl, ((tt, (refl, tt)), tt)))) $
      done !

  pub slip_made : ent 𝓤 (sem 𝓛 (slip_owns R γ x)) (sem 𝓛 ((Slip.the_row R).own_val a_slip (token ∷ [])))
  slip_made = let F = (Struct (shape (Slip.the_type R))).own_val (tt, tt) (token ∷ []) in
      qed 𝓛 (‵ (slip_owns R γ x) ∷ []) ∵
      use0 𝓛 (‵ F)
      (makes_shadow 𝓛 F (λ vss. (tt, ((λ uss. (tt, tt)), tt)))
      ((vstruct vnil ∷ [], tt), (refl, ((tt, (refl, tt)), tt)))) $
      done !

abbrev pub vals : {X : Type 0} → X → List Val
vals x = token ∷ []

pub stub_Tells : (R : RattleType) → Tells (Stub.the_row R) (Is (Stub.the_row R)) vals
stub_Tells R x vs is = is.0.1.0 ∙ ap (λ (ws : List Val). vstruct (of_list (ws ++ [])) ∷ []) is.0.1.1.0.1.0

pub slip_Tells : (R : RattleType) → Tells (Slip.the_row R) (Is (Slip.the_row R)) vals
slip_Tells R x vs is = is.0.1.0 ∙ ap (λ (ws : List Val). vstruct (of_list (ws ++ [])) ∷ []) is.0.1.1.0.1.0

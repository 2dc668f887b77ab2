-- What a `Front` owns. Assumes `Logic`.
use Rattle.std.proofs.Common.{◌≡◌, ℕ, zero, suc, List, [], ◌∷◌, ◌++◌, refl, ap, sym, Option, Some, None, option_map}
use Rattle.std.specs.Prelude.{slice_get}
use seplogic.Ra.Ura.{Ura}
use mir.Val.{Val, vstruct, vcons, vnil}
use base.Logic.{ent, sep, emp, emp∗}
use base.Fml.{Fml, fsep}
use types.Logic.{Logic, sem}
use types.Kit.{‵, raw, ◌⊛◌, ◌$◌, ◌∵◌, !, qed, by, move, keep, split, fsplit, fjoin, use0, use1, use2, rewrite, done}
use contract.Monad.{fact, fact_i}
use denote.RattleType.{RattleType}
use denote.Shadow.{makes_shadow}
use denote.Steps.{heard}
use denote.Struct.Struct.{Struct}
use denote.Struct.Owning.{shape}
use Rattle.once_cell.specs.Once.{noted}
use Rattle.once_cell.proofs.Notes.{noted_twice, noted_agree}
use Rattle.call_journal.specs.Fronts.{Begins}
use Rattle.call_journal.specs.Inside.Known.{known, names_of}
use Rattle.call_journal.specs.contracts.front.Front as Front

abbrev pub token : Val
token = vstruct (vcons (vstruct vnil) vnil)

-- the front with one cell more, if its value is known
abbrev pub more : {X : Type 0} → List (ℕ × X) → ℕ → Option X → List (ℕ × X)
more cs γ None = cs
more cs γ (Some x) = cs ++ (γ, x) ∷ []

module _ {M : Type 1} {𝓤 : Ura M} (𝓛 : Logic 𝓤) (R : RattleType) where
  pub front_made : (cs : List (ℕ × R.Denot)) → ent 𝓤 (sem 𝓛 (known R cs))
      (sem 𝓛 ((Front.the_row R).own_val (record { marker = record {}; seen = cs }) (token ∷ [])))
  front_made cs = let F = (Struct (shape (Front.the_type R))).own_val (tt, tt) (token ∷ []) in
      qed 𝓛 (‵ (known R cs) ∷ []) ∵
      use0 𝓛 (‵ F)
      (makes_shadow 𝓛 F (λ vss. (tt, ((λ uss. (tt, tt)), tt)))
      ((vstruct vnil ∷ [], tt), (refl, ((tt, (refl, tt)), tt)))) $
      done !

  pub known_twice :
      (cs : List (ℕ × R.Denot)) → ent 𝓤 (sem 𝓛 (known R cs)) (sep 𝓤 (sem 𝓛 (known R cs)) (sem 𝓛 (known R cs)))
  known_twice [] = emp∗ 𝓤 (emp 𝓤)
  known_twice (c ∷ cs) = let N : Fml = noted R c.0 (Some c.1) in let K : Fml = known R cs in
      qed 𝓛 (‵ (fsep N K) ∷ []) ∵ fsplit ! $ use1 𝓛 (‵ N ⊛ ‵ N) (noted_twice 𝓛 R c.0 (Some c.1)) $ split ! $
      move ! (2 ∷ []) $ use1 𝓛 (‵ K ⊛ ‵ K) (known_twice cs) $ split ! $
      -- [K; K; N; N]
      move ! (2 ∷ 0 ∷ []) $ fjoin ! $ move ! (2 ∷ 1 ∷ []) $ fjoin ! $ done !

  pub known_more : (cs : List (ℕ × R.Denot)) (γ : ℕ) (k : Option R.Denot)
      → ent 𝓤 (sep 𝓤 (sem 𝓛 (known R cs)) (sem 𝓛 (noted R γ k))) (sem 𝓛 (known R (more cs γ k)))
  known_more cs γ None = qed 𝓛 (‵ (known R cs) ∷ ‵ (noted R γ None) ∷ []) ∵ keep ! (0 ∷ []) $ done !
  known_more [] γ (Some x) = let N : Fml = noted R γ (Some x) in qed 𝓛 (‵ (known R []) ∷ ‵ N ∷ []) ∵
      move ! (1 ∷ 0 ∷ []) $ fjoin ! $ done !
  known_more (c ∷ cs) γ (Some x) = let N : Fml = noted R c.0 (Some c.1) in
      let K : Fml = known R cs in
      let O : Fml = noted R γ (Some x) in
      qed 𝓛 (‵ (fsep N K) ∷ ‵ O ∷ []) ∵ fsplit ! $ move ! (1 ∷ 2 ∷ []) $
      use2 𝓛 (‵ (known R (cs ++ (γ, x) ∷ []))) (known_more cs γ (Some x)) $ move ! (1 ∷ 0 ∷ []) $ fjoin ! $ done !

  -- the cell at an index
  pub known_at : (cs : List (ℕ × R.Denot)) (i γ : ℕ) → option_map (λ c. c.0) (slice_get cs i) ≡ Some γ
      → ent 𝓤 (sem 𝓛 (known R cs)) (sem 𝓛 (noted R γ (option_map (λ c. c.1) (slice_get cs i))))
  known_at [] i γ e = absurd cc
  known_at (c ∷ cs) zero γ e =
      let same : c.0 ≡ γ = cc in qed 𝓛 (‵ (fsep (noted R c.0 (Some c.1)) (known R cs)) ∷ []) ∵ fsplit ! $
      keep ! (0 ∷ []) $ rewrite ! 0 (λ (n : ℕ). ‵ (noted R n (Some c.1))) same refl $ done !
  known_at (c ∷ cs) (suc i) γ e = qed 𝓛 (‵ (fsep (noted R c.0 (Some c.1)) (known R cs)) ∷ []) ∵ fsplit ! $
      keep ! (1 ∷ []) $ by ! (known_at cs i γ e)

  begins_head :
      (c d : ℕ × R.Denot) (cs ds : List (ℕ × R.Denot)) → Begins (names_of (c ∷ cs)) (names_of (d ∷ ds)) → d.0 ≡ c.0
  begins_head c d cs ds h = let e : c.0 ∷ (names_of cs ++ h.0) ≡ d.0 ∷ names_of ds = h.1 in cc

  begins_tail : (c d : ℕ × R.Denot) (cs ds : List (ℕ × R.Denot)) → Begins (names_of (c ∷ cs)) (names_of (d ∷ ds))
      → Begins (names_of cs) (names_of ds)
  begins_tail c d cs ds h = let e : c.0 ∷ (names_of cs ++ h.0) ≡ d.0 ∷ names_of ds = h.1 in
      let t : names_of cs ++ h.0 ≡ names_of ds = cc in (h.0, t)

  begins_both :
      (c d : ℕ × R.Denot) (cs ds : List (ℕ × R.Denot)) → d.0 ≡ c.0 → c.1 ≡ d.1 → Begins cs ds → Begins (c ∷ cs) (d ∷ ds)
  begins_both c d cs ds n v t = let e : c ≡ d = λ i. (sym n i, v i) in (t.0, rw (t.1) (ap (λ x. x ∷ ds) e))

  pub known_agree : (cs ds : List (ℕ × R.Denot)) → Begins (names_of cs) (names_of ds)
      → ent 𝓤 (sep 𝓤 (sem 𝓛 (known R cs)) (sem 𝓛 (known R ds))) (fact 𝓤 (Begins cs ds))
  known_agree [] ds h = fact_i 𝓤 _ _ (ds, refl)
  known_agree (c ∷ cs) [] h = let e : c.0 ∷ (names_of cs ++ h.0) ≡ [] = h.1 in absurd cc
  known_agree (c ∷ cs) (d ∷ ds) h = let n = begins_head c d cs ds h in
      let N : Fml = noted R c.0 (Some c.1) in
      let O : ℕ → Fml = λ γ. noted R γ (Some d.1) in
      qed 𝓛 (‵ (fsep N (known R cs)) ∷ ‵ (fsep (O d.0) (known R ds)) ∷ []) ∵ fsplit ! $ move ! (2 ∷ []) $ fsplit ! $
      -- [O; known ds; N; known cs]
      rewrite ! 0 (λ (γ : ℕ). ‵ (O γ)) n refl $ move ! (2 ∷ 0 ∷ []) $
      use2 𝓛 (raw (fact 𝓤 (c.1 ≡ d.1))) (noted_agree 𝓛 R c.0 (Some c.1) (Some d.1)) $ heard ! (c.1 ≡ d.1) (λ v.
      move ! (1 ∷ 0 ∷ []) $ use2 𝓛 (raw (fact 𝓤 (Begins cs ds))) (known_agree cs ds (begins_tail c d cs ds h)) $
      heard ! (Begins cs ds) (λ t. by ! (fact_i 𝓤 _ _ (begins_both c d cs ds n v t))))

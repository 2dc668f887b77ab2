-- Puts of texts: what is prepared for one, and the laws of their answers.
use Rattle.std.proofs.Common.{◌≡◌, ◌≢◌, ◌⊎◌, inl, inr, ℕ, List, Result, Ok, Err, IfOk, refl, sym, ap, ◌∙◌, subst}
use Rattle.std.specs.Arc.{arc_value}
use Rattle.wasm_ast.specs.declared.module.Module.{Module}
use Rattle.wasm_ast.specs.declared.refusal.Refusal.{Refusal}
use Rattle.wasm_ast.specs.declared.refusal.Refusal.TheVariants as refusal
use Rattle.wasm_ast.specs.Limits.{Within}
use Rattle.wasm_binary.specs.Canonical.{canon, FitsLimits}
use Rattle.text_assembler.specs.Modules.{Denotes, IsTooDeep, IsBadText}
use Rattle.task_board.specs.declared.prepared.Plan.{Plan}
use Rattle.task_board.specs.declared.prepared.Plan.TheVariants as plan
use Rattle.task_board.specs.declared.store_change.StoreChange.{StoreChange}
use Rattle.task_board.specs.declared.store_change.StoreChange.TheVariants as store
use Rattle.task_requests.specs.declared.request.Request.TheVariants as request
use Rattle.task_board.specs.BoardState.{BoardState}
use Rattle.task_board.specs.BoardValue.{Room}
use Rattle.task_board.specs.Texts.{IsAssembled, DenotesNone, CannotAssemble, bad_text, too_much, too_deep}
use Rattle.task_board.specs.Step.{Answer, Puts, PutsText, refused, stored, Answers}
use Rattle.task_board.specs.Choices.{AgreeOnText}
use Rattle.task_board.specs.Inside.StoreChanges.{IsMadeFor}
use Rattle.task_board.specs.Inside.Plans.{Plans}
use Rattle.task_board.proofs.LawLemmas.{answers_same}

-- ---- what is prepared

text_change : (text bytes : List ℕ) (c : StoreChange) → IsAssembled text bytes → IsMadeFor (request.Put bytes) c
    → IsMadeFor (request.PutText text) c
text_change text bytes (store.Put key given digest) is made =
    subst (λ (x : List ℕ). IsAssembled text x) (same_bytes bytes (arc_value given) made) is
  where
    same_bytes : (a b : List ℕ) → request.Put a ≡ request.Put b → a ≡ b
    same_bytes a b h = cc
text_change text bytes _ is made = cc

-- what a put of the bytes of a text is prepared as, its put is prepared as
text_plan : (s : BoardState) (room : Room) (text bytes : List ℕ) (p : Plan) → IsAssembled text bytes
    → Plans s room (request.Put bytes) p → Plans s room (request.PutText text) p
text_plan s room text bytes (plan.Refused e) is h = (h.0, stored bytes is h.1)
text_plan s room text bytes (plan.Answered reply) is h = absurd h.0
text_plan s room text bytes (plan.Store c) is h = (text_change text bytes c is h.0, h.1)
text_plan s room text bytes (plan.Create task id) is h = let asked = h.is in cc
text_plan s room text bytes (plan.Change c slot id) is h = let asked = h.0 in cc
text_plan s room text bytes (plan.Delete slot id) is h = let asked = h.0 in cc
text_plan s room text bytes (plan.Breaks m slot id breaks) is h = let asked = h.0 in cc

module _ {E : Type 0} where
  pub text_plans : (s : BoardState) (room : Room) (text bytes : List ℕ) (r : Result Plan E) → IsAssembled text bytes
      → IfOk r (λ p. Plans s room (request.Put bytes) p) → IfOk r (λ p. Plans s room (request.PutText text) p)
  text_plans s room text bytes (Ok p) is h = text_plan s room text bytes p is h
  text_plans s room text bytes (Err e) is h = tt

-- a text of which no bytes are stored is refused
pub refused_plan : (s : BoardState) (room : Room) (text : List ℕ) (e : Refusal) → CannotAssemble text e
    → Plans s room (request.PutText text) (plan.Refused e)
refused_plan s room text e why = (not_memory e why, refused e why refl refl)
  where
    not_memory : (e : Refusal) → CannotAssemble text e → e ≡ refusal.NoMemory → ⊥
    not_memory _ (bad_text line column none) is = cc
    not_memory _ (too_much m denotes big) is = cc
    not_memory _ (too_deep deep) is = cc

-- ---- what the assembler promises

-- the reason of a refusal as a text that denotes no module
bad_cause : (text : List ℕ) (e : Refusal) → IsBadText e → DenotesNone text → CannotAssemble text e
bad_cause text (refusal.BadText line column) bad none = bad_text line column none
bad_cause text _ bad none = absurd bad

-- the reason of a refusal for a limit
limit_cause : (text : List ℕ) → ((m : Module) → Denotes text m → FitsLimits m → ⊥)
    → ((m : Module) × Denotes text m) ⊎ IsTooDeep text → CannotAssemble text refusal.Limit
limit_cause text big (inl d) = too_much d.0 d.1 (big d.0 d.1)
limit_cause text big (inr deep) = too_deep deep

-- why a text was refused, by what is promised of its refusals
pub why_refused : (text : List ℕ) (e : Refusal) → e ≢ refusal.NoMemory → (IsBadText e → DenotesNone text)
    → (e ≡ refusal.Limit → (m : Module) → Denotes text m → FitsLimits m → ⊥)
    → (e ≡ refusal.Limit → ((m : Module) × Denotes text m) ⊎ IsTooDeep text)
    → IsBadText e ⊎ ((e ≡ refusal.Limit) ⊎ (e ≡ refusal.NoMemory)) → CannotAssemble text e
why_refused text e known none big over (inl bad) = bad_cause text e bad (none bad)
why_refused text e known none big over (inr (inl limit)) =
    subst (λ (x : Refusal). CannotAssemble text x) (sym limit) (limit_cause text (big limit) (over limit))
why_refused text e known none big over (inr (inr met)) = absurd (known met)

-- ---- laws

abbrev pub One : Type 0
One = (text : List ℕ) (m n : Module) → Denotes text m → Denotes text n → m ≡ n

abbrev pub DeepHasNone : Type 0
DeepHasNone = (text : List ℕ) → IsTooDeep text → (m : Module) → Denotes text m → Within m → ⊥

-- of a text that is assembled no refusal has a reason
never_both : (text : List ℕ) (m : Module) (e : Refusal) → One → DeepHasNone → Denotes text m → FitsLimits m
    → CannotAssemble text e → ⊥
never_both text m _ one deepest denotes fits (bad_text line column none) = none m denotes
never_both text m _ one deepest denotes fits (too_much n other big) =
    big (subst FitsLimits (one text m n denotes other) fits)
never_both text m _ one deepest denotes fits (too_deep deep) = deepest text deep m denotes fits.0

put_by : (s : BoardState) (text : List ℕ) (m : Module) (r : Answer) (s' : BoardState) → One → DeepHasNone
    → Denotes text m → FitsLimits m → PutsText s text r s' → Puts s (canon m) r s'
put_by s text m r s' one deepest denotes fits (refused e why is same) =
    absurd (never_both text m e one deepest denotes fits why)
put_by s text m r s' one deepest denotes fits (stored bytes is puts) =
    let same : bytes ≡ canon m = is.encodes ∙ ap canon (one text is.module m is.denotes denotes) in
    subst (λ (x : List ℕ). Puts s x r s') same puts

pub text_is_put : (s : BoardState) (text : List ℕ) (m : Module) (r : Answer) (s' : BoardState) → One → DeepHasNone
    → Denotes text m → FitsLimits m → Answers s (request.PutText text) r s' → Answers s (request.Put (canon m)) r s'
text_is_put s text m r s' one deepest denotes fits a = put_by s text m r s' one deepest denotes fits a

stays_by :
    (s : BoardState) (text : List ℕ) (r : Answer) (s' : BoardState) → ((m : Module) → Denotes text m → FitsLimits m → ⊥)
    → PutsText s text r s' → s' ≡ s
stays_by s text r s' none (refused e why is same) = same
stays_by s text r s' none (stored bytes is puts) = absurd (none is.module is.denotes is.fits)

pub bad_text_stays :
    (s : BoardState) (text : List ℕ) (r : Answer) (s' : BoardState) → ((m : Module) → Denotes text m → FitsLimits m → ⊥)
    → Answers s (request.PutText text) r s' → s' ≡ s
bad_text_stays s text r s' none a = stays_by s text r s' none a

limit_of : (text : List ℕ) (m : Module) (e : Refusal) → Denotes text m → CannotAssemble text e → e ≡ refusal.Limit
limit_of text m _ denotes (bad_text line column none) = absurd (none m denotes)
limit_of text m _ denotes (too_much n other big) = refl
limit_of text m _ denotes (too_deep deep) = refl

limit_by : (s : BoardState) (text : List ℕ) (m : Module) (r : Answer) (s' : BoardState) → One → Denotes text m
    → (FitsLimits m → ⊥) → PutsText s text r s' → r ≡ Err refusal.Limit
limit_by s text m r s' one denotes big (refused e why is same) =
    is ∙ ap (λ (x : Refusal). Err x) (limit_of text m e denotes why)
limit_by s text m r s' one denotes big (stored bytes is puts) =
    absurd (big (subst FitsLimits (one text is.module m is.denotes denotes) is.fits))

pub big_text_is_limit :
    (s : BoardState) (text : List ℕ) (m : Module) (r : Answer) (s' : BoardState) → One → Denotes text m
    → (FitsLimits m → ⊥) → Answers s (request.PutText text) r s' → r ≡ Err refusal.Limit
big_text_is_limit s text m r s' one denotes big a = limit_by s text m r s' one denotes big a

bad_of : (text : List ℕ) (e : Refusal) → DenotesNone text → (IsTooDeep text → ⊥) → CannotAssemble text e → IsBadText e
bad_of text _ none flat (bad_text line column why) = tt
bad_of text _ none flat (too_much m denotes big) = absurd (none m denotes)
bad_of text _ none flat (too_deep deep) = absurd (flat deep)

bad_by : (s : BoardState) (text : List ℕ) (r : Answer) (s' : BoardState) → DenotesNone text → (IsTooDeep text → ⊥)
    → PutsText s text r s' → (e : Refusal) × (r ≡ Err e) × IsBadText e
bad_by s text r s' none flat (refused e why is same) = (e, is, bad_of text e none flat why)
bad_by s text r s' none flat (stored bytes is puts) = absurd (none is.module is.denotes)

pub no_text_is_bad :
    (s : BoardState) (text : List ℕ) (r : Answer) (s' : BoardState) → DenotesNone text → (IsTooDeep text → ⊥)
    → Answers s (request.PutText text) r s' → (e : Refusal) × (r ≡ Err e) × IsBadText e
no_text_is_bad s text r s' none flat a = bad_by s text r s' none flat a

-- ---- what a put of a text leaves open

-- two reasons for the same text
reasons_agree : (text : List ℕ) (e e' : Refusal) → CannotAssemble text e → CannotAssemble text e'
    → AgreeOnText text (Err e) (Err e')
reasons_agree text _ _ (bad_text line column none) (bad_text line' column' none') = inr (none, tt, tt)
reasons_agree text _ _ (bad_text line column none) (too_much m denotes big) = absurd (none m denotes)
reasons_agree text _ _ (bad_text line column none) (too_deep deep) = inr (none, tt, deep)
reasons_agree text _ _ (too_much m denotes big) (bad_text line column none) = absurd (none m denotes)
reasons_agree text _ _ (too_deep deep) (bad_text line column none) = inr (none, deep, tt)
reasons_agree text _ _ _ _ = inl refl

agree_by :
    (s : BoardState) (text : List ℕ) (r : Answer) (s1 : BoardState) (r' : Answer) (s2 : BoardState) → One → DeepHasNone
    → PutsText s text r s1 → PutsText s text r' s2 → AgreeOnText text r r' × (s1 ≡ s2)
agree_by s text r s1 r' s2 one deepest (refused e why is same) (refused e' why' is' same') =
    let P : Answer → Answer → Type 0 = λ x y. AgreeOnText text x y in (
      subst (λ (x : Answer). P x r') (sym is)
          (subst (λ (y : Answer). P (Err e) y) (sym is') (reasons_agree text e e' why why')),
      same ∙ sym same',
    )
agree_by s text r s1 r' s2 one deepest (refused e why is same) (stored bytes is' puts) =
    absurd (never_both text is'.module e one deepest is'.denotes is'.fits why)
agree_by s text r s1 r' s2 one deepest (stored bytes is puts) (refused e why is' same) =
    absurd (never_both text is.module e one deepest is.denotes is.fits why)
agree_by s text r s1 r' s2 one deepest (stored bytes is puts) (stored bytes' is' puts') =
    let other = put_by s text is.module r' s2 one deepest is.denotes is.fits (stored bytes' is' puts') in
    let first = subst (λ (x : List ℕ). Puts s x r s1) is.encodes puts in
    let same = answers_same s (request.Put (canon is.module)) r s1 r' s2 tt first other in
    (inl same.0, same.1)

pub text_agrees :
    (s : BoardState) (text : List ℕ) (r : Answer) (s1 : BoardState) (r' : Answer) (s2 : BoardState) → One → DeepHasNone
    → Answers s (request.PutText text) r s1 → Answers s (request.PutText text) r' s2 → AgreeOnText text r r' × (s1 ≡ s2)
text_agrees s text r s1 r' s2 one deepest a b = agree_by s text r s1 r' s2 one deepest a b

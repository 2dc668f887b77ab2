-- Lists of places that are known.
use Rattle.std.proofs.Common.{inl, inr, ◌≡◌, ℕ, zero, suc, ◌<◌, List, [], ◌∷◌, ◌++◌, length, get_or, Some, refl, sym, ap, subst, ◌∙◌, arith}
use Rattle.std.specs.Prelude.{slice_get, All, ◌↔◌, ◌⊎◌}
use Rattle.std.proofs.lemmas.List.Elements.{All-push}
use Rattle.std.proofs.lemmas.Option.{slice_get_within, get_or_from_slice_get}
use Rattle.std.specs.List.{AllZip}
use Rattle.wasm_ast.specs.declared.module.Module.{Module}
use Rattle.debugger.specs.declared.known_places.KnownPlace.{KnownPlace}
use Rattle.validator.specs.PlaceTypes.{Known, Point, ReachesAt, PassesAt, MatchPoint}
use Rattle.step_machine.specs.Frames.{FrameValue, Tells}
use Rattle.wasm_ast.specs.declared.shown.ShownFrame.{ShownFrame}
use Rattle.debugger.specs.Inside.KnownPlaces.{IsKnown, IsThere, HasFrame}
use Rattle.debugger.specs.Inside.Typed.{AreTypesAt}

last_is : (ks : List KnownPlace) (k : KnownPlace) → slice_get (ks ++ k ∷ []) (length ks) ≡ Some k
last_is [] k = refl
last_is (j ∷ ks) k = last_is ks k

-- one more
pub all_with :
    (m : Module) (ks more : List KnownPlace) (k : KnownPlace) → All (IsKnown m) ks → IsKnown m k → more ≡ ks ++ k ∷ []
    → All (IsKnown m) more
all_with m ks more k all known is =
    subst (λ (l : List KnownPlace). All (IsKnown m) l) (sym is) (All-push (IsKnown m) ks k all known)

pub there_at : (ks more : List KnownPlace) (k : KnownPlace) (func place at : ℕ) → more ≡ ks ++ k ∷ [] → at ≡ length ks
    → k.func ≡ func → k.place ≡ place
    → (x : KnownPlace) × (slice_get more at ≡ Some x) × (x.func ≡ func) × (x.place ≡ place)
there_at ks more k func place at is last called there = (
  k,
  subst (λ (l : List KnownPlace). slice_get l at ≡ Some k) (sym is)
      (subst (λ (n : ℕ). slice_get (ks ++ k ∷ []) n ≡ Some k) (sym last) (last_is ks k)),
  called,
  there,
)

is_known : (m : Module) (ks : List KnownPlace) (k : KnownPlace) (at : ℕ) → All (IsKnown m) ks → slice_get ks at ≡ Some k
    → IsKnown m k
is_known m ks k at all is =
    subst (IsKnown m) (get_or_from_slice_get ks at k k is) (all at k (slice_get_within ks at k is))

-- a frame is at the one of these that has its function and its place
pub is_there : (m : Module) (ks : List KnownPlace) (k read : KnownPlace) (w : FrameValue) (f : ShownFrame) (at : ℕ)
    → All (IsKnown m) ks → slice_get ks at ≡ Some k → read ≡ get_or ks at read → Tells m w f → k.func ≡ w.func
    → k.place ≡ w.place → IsThere m read w f
is_there m ks k read w f at all is one told func place =
    let same : read ≡ k = one ∙ get_or_from_slice_get ks at k read is in
    record {
      known = subst (IsKnown m) (sym same) (is_known m ks k at all is);
      told = told;
      func = ap (λ (x : KnownPlace). x.func) same ∙ func;
      place = ap (λ (x : KnownPlace). x.place) same ∙ place;
    }

-- ---- several places

pub each_length : {A : Type 0} (IsAt : ℕ → A → Type 0) (places : List ℕ) (xs : List A) → AllZip IsAt places xs
    → length xs ≡ length places
each_length IsAt [] [] h = refl
each_length IsAt [] (x ∷ xs) h = absurd h
each_length IsAt (p ∷ places) [] h = absurd h
each_length IsAt (p ∷ places) (x ∷ xs) h = let rest = each_length IsAt places xs h.1 in omega (arith, rest)

pub each_at : {A : Type 0} (IsAt : ℕ → A → Type 0) (places : List ℕ) (xs : List A) (k : ℕ) (p : ℕ) (x : A)
    → AllZip IsAt places xs → k < length places → p ≡ get_or places k p → x ≡ get_or xs k x → IsAt p x
each_at IsAt [] xs k p x h less one two = absurd (omega (arith, less))
each_at IsAt (q ∷ places) [] k p x h less one two = absurd h
each_at IsAt (q ∷ places) (y ∷ xs) zero p x h less one two =
    subst (IsAt p) (sym two) (subst (λ (n : ℕ). IsAt n y) (sym one) h.0)
each_at IsAt (q ∷ places) (y ∷ xs) (suc k) p x h less one two =
    each_at IsAt places xs k p x h.1 (omega (arith, less)) one two

-- what is known at a place, of a module that is given in other words
pub types_there : (n m : Module) (func place : ℕ) (t : Known) → n ≡ m
    → ((p : Point) → MatchPoint t p ↔ ReachesAt n func place p)
    → (p : Point) × PassesAt n func place p × MatchPoint t p → AreTypesAt m func place t
types_there n m func place t same exact some = record {
  exact = subst (λ (x : Module). (p : Point) → MatchPoint t p ↔ ReachesAt x func place p) same exact;
  some = some.0;
  matches = some.2;
}

pub types_at_each_there : (n m : Module) (func : ℕ) (places : List ℕ) (ts : List Known) → n ≡ m
    → AllZip (λ place t. (p : Point) → MatchPoint t p ↔ ReachesAt n func place p) places ts
    → AllZip (λ place t. (p : Point) × PassesAt n func place p × MatchPoint t p) places ts
    → AllZip (AreTypesAt m func) places ts
types_at_each_there n m func [] [] same exact some = tt
types_at_each_there n m func [] (t ∷ ts) same exact some = absurd exact
types_at_each_there n m func (p ∷ places) [] same exact some = absurd exact
types_at_each_there n m func (p ∷ places) (t ∷ ts) same exact some = (
  types_there n m func p t same exact.0 some.0,
  types_at_each_there n m func places ts same exact.1 some.1,
)

-- one place more, if it is one more
pub frames_with : (m : Module) (func place : ℕ) (old new : List ℕ) → All (HasFrame m func) old → HasFrame m func place
    → (new ≡ old) ⊎ (new ≡ old ++ place ∷ []) → All (HasFrame m func) new
frames_with m func place old new all one (inl same) = subst (λ (l : List ℕ). All (HasFrame m func) l) (sym same) all
frames_with m func place old new all one (inr more) =
    subst (λ (l : List ℕ). All (HasFrame m func) l) (sym more) (All-push (HasFrame m func) old place all one)

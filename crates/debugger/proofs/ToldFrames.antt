-- The parts of a frame, from what is told of it.
use Rattle.std.proofs.Common.{◌≡◌, ℕ, ◌+◌, ◌≤◌, List, [], ◌∷◌, ◌++◌, length, map, take, drop, reverse, Some, refl, sym, ap, subst, ◌∙◌, arith}
use Rattle.std.specs.Prelude.{slice_get, All, ◌↔◌}
use Rattle.std.proofs.lemmas.List.{take_more, take_at, drop_at, map-append, length-map, length-append, reverse-append, reverse-reverse}
use Rattle.std.proofs.lemmas.List.Elements.{All-same, All-take, All-drop}
use Rattle.std.proofs.lemmas.Option.{slice_get_within, get_or_from_slice_get}
use Rattle.wasm_ast.specs.declared.values.ValType.{ValType}
use Rattle.wasm_ast.specs.declared.values.Value.{Value}
use Rattle.wasm_ast.specs.declared.module.Module.{Module}
use Rattle.wasm_ast.specs.Types.{type_of}
use Rattle.wasm_ast.specs.Ranged.{RangedValue}
use Rattle.validator.specs.PlaceTypes.{Point, IsOwn, ReachesAt}
use Rattle.step_machine.specs.Frames.{FrameValue, number, joined, Tells}
use Rattle.step_machine.specs.Places.{opens_at}
use Rattle.wasm_ast.specs.declared.shown.ShownFrame.{ShownFrame}
use Rattle.debugger.specs.declared.known_places.KnownPlace.{KnownPlace}
use Rattle.debugger.specs.Inside.KnownPlaces.{IsThere}
use Rattle.debugger.specs.Inside.Typed.{values_of}
use Rattle.debugger.proofs.TypedLemmas.{values_are, operands_are}

words_told : (m : Module) (w : FrameValue) (f : ShownFrame) → Tells m w f
    → w.words ≡ map number f.locals ++ map number f.operands
words_told m w f told = told.words ∙ map-append number f.locals f.operands

locals_told : (m : Module) (w : FrameValue) (f : ShownFrame) (types : List ValType) (told : Tells m w f)
    → types ≡ told.type.params ++ told.own.locals → values_of types w.words ≡ f.locals
locals_told m w f types told typed =
    let types_are : types ≡ map type_of f.locals = typed ∙ sym told.locals_typed in
    ap (λ (ts : List ValType). values_of ts w.words) types_are
    ∙ ap (λ (ns : List ℕ). values_of (map type_of f.locals) ns) (words_told m w f told)
    ∙ values_are f.locals (map number f.operands)

operands_told : (m : Module) (w : FrameValue) (f : ShownFrame) (types : List ValType) (n : ℕ) (told : Tells m w f)
    → n ≡ length f.locals → types ≡ reverse (joined told.point.stacks) → values_of types (drop n w.words) ≡ f.operands
operands_told m w f types n told count is =
    let types_are : types ≡ map type_of f.operands ++ reverse told.taken =
    is ∙ ap (λ (ts : List ValType). reverse ts) told.operands_typed
    ∙ reverse-append told.taken (reverse (map type_of f.operands))
    ∙ ap (λ (ts : List ValType). ts ++ reverse told.taken) (reverse-reverse (map type_of f.operands)) in
    let words_are : drop n w.words ≡ map number f.operands =
    ap (λ (ns : List ℕ). drop n ns) (words_told m w f told)
    ∙ drop_at (map number f.locals) (map number f.operands) n (length-map f.locals number ∙ sym count) in
    ap (λ (ts : List ValType). values_of ts (drop n w.words)) types_are
    ∙ ap (λ (ns : List ℕ). values_of (map type_of f.operands ++ reverse told.taken) ns) words_are
    ∙ operands_are f.operands (reverse told.taken)

pub locals_ranged : (vs us ws : List Value) → ws ≡ vs → All RangedValue (vs ++ us) → All RangedValue ws
locals_ranged vs us ws is all =
    All-same RangedValue ws (take (length vs) (vs ++ us)) (is ∙ sym (take_at vs us (length vs) refl))
    (All-take RangedValue (length vs) (vs ++ us) all)

pub operands_ranged : (vs us ws : List Value) → ws ≡ us → All RangedValue (vs ++ us) → All RangedValue ws
operands_ranged vs us ws is all =
    All-same RangedValue ws (drop (length vs) (vs ++ us)) (is ∙ sym (drop_at vs us (length vs) refl))
    (All-drop RangedValue (length vs) (vs ++ us) all)

pub same_frame : (f g : ShownFrame) → f.func ≡ g.func → f.next ≡ g.next → f.labels ≡ g.labels → f.locals ≡ g.locals
    → f.operands ≡ g.operands → f ≡ g
same_frame f g func next labels locals operands =
    λ i. record { func = func i; next = next i; labels = labels i; locals = locals i; operands = operands i }

-- ---- of what is known of the place where it is

own_there : (m : Module) (k : KnownPlace) (w : FrameValue) (f : ShownFrame) (there : IsThere m k w f)
    → IsOwn m k.func there.told.own
own_there m k w f there =
    subst (λ (n : ℕ). IsOwn m n there.told.own) (sym (there.func ∙ there.told.func)) there.told.is_own

pub locals_there :
    (m : Module) (k : KnownPlace) (w : FrameValue) (f : ShownFrame) (types : List ValType) → IsThere m k w f
    → types ≡ k.locals.items → values_of types w.words ≡ f.locals
locals_there m k w f types there is =
    locals_told m w f types there.told
    (is ∙ there.known.locals there.told.own there.told.type (own_there m k w f there) there.told.is_type)

pub operands_there :
    (m : Module) (k : KnownPlace) (w : FrameValue) (f : ShownFrame) (types : List ValType) (n : ℕ) → IsThere m k w f
    → n ≡ length f.locals → types ≡ k.operands.items → values_of types (drop n w.words) ≡ f.operands
operands_there m k w f types n there count is =
    let exact =
    subst (λ (at : ℕ). (p : Point) → ReachesAt m k.func at p ↔ (p ≡ there.told.point)) (sym there.place)
    (subst (λ (func : ℕ). (p : Point) → ReachesAt m func w.place p ↔ (p ≡ there.told.point))
    (sym (there.func ∙ there.told.func)) there.told.exact) in
    operands_told m w f types n there.told count (is ∙ there.known.operands there.told.point exact)

pub labels_there : (m : Module) (k : KnownPlace) (w : FrameValue) (f : ShownFrame) (labels : List ℕ) → IsThere m k w f
    → labels ≡ k.blocks.items → labels ≡ f.labels
labels_there m k w f labels there is =
    is ∙ there.known.blocks there.told.own (own_there m k w f there)
    ∙ ap (λ (at : ℕ). opens_at there.told.own.body 0 [] at) there.place ∙ sym there.told.labels

pub room_told : (m : Module) (w : FrameValue) (f : ShownFrame) → Tells m w f → length f.locals ≤ length w.words
room_told m w f told =
    let words : length w.words ≡ length (map number f.locals) + length (map number f.operands) =
    ap (λ (ns : List ℕ). length ns) (words_told m w f told)
    ∙ length-append (map number f.locals) (map number f.operands) in
    let locals = length-map f.locals number in
    omega (arith, words, locals)

-- one frame more
pub take_frame : (fs : List ShownFrame) (k : ℕ) (f s : ShownFrame) → slice_get fs k ≡ Some f → s ≡ f
    → take (k + 1) fs ≡ take k fs ++ s ∷ []
take_frame fs k f s is same =
    take_more fs k f (slice_get_within fs k f is)
    ∙ ap (λ (x : ShownFrame). take k fs ++ x ∷ []) (get_or_from_slice_get fs k f f is ∙ sym same)

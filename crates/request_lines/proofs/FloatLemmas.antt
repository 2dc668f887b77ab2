-- Replies have no fractions.
use Rattle.std.proofs.Common.{◌≡◌, ℕ, List, [], ◌∷◌, map, Option, Some, None, false, refl}
use Rattle.serde_json.specs.Data.{string}
use Rattle.serde_json.specs.View.{items_of}
use Rattle.serde_json.specs.Written.{has_float, items_have_float}
use Rattle.wasm_ast.specs.declared.values.Value.{Value}
use Rattle.wasm_ast.specs.declared.shown.ShownFrame.{ShownFrame}
use Rattle.request_lines.specs.Shape.{count}
use Rattle.request_lines.specs.Reply.{value_text, next_data, frame_data}

pub texts_have_none : (texts : List (List ℕ)) → items_have_float (items_of (map string texts)) ≡ false
texts_have_none [] = refl
texts_have_none (text ∷ texts) = texts_have_none texts

places_have_none : (places : List ℕ) → items_have_float (items_of (map count places)) ≡ false
places_have_none [] = refl
places_have_none (place ∷ places) = places_have_none places

values_have_none :
    (vs : List Value) → items_have_float (items_of (map (λ (v : Value). string (value_text v)) vs)) ≡ false
values_have_none [] = refl
values_have_none (v ∷ vs) = values_have_none vs

next_has_none : (next : Option ℕ) → has_float (next_data next) ≡ false
next_has_none None = refl
next_has_none (Some place) = refl

frame_has_none : (f : ShownFrame) → has_float (frame_data f) ≡ false
frame_has_none f =
    rw (places_have_none f.labels, values_have_none f.locals, next_has_none f.next, values_have_none f.operands) refl

pub frames_have_none : (frames : List ShownFrame) → items_have_float (items_of (map frame_data frames)) ≡ false
frames_have_none [] = refl
frames_have_none (f ∷ frames) = rw (frame_has_none f, frames_have_none frames) refl

use Rattle.std.proofs.Common.{◌≡◌, ◌++◌, drop, List, ℕ, option_map}
use Rattle.serde_json.specs.View.{items_view}
use Rattle.oci_config.specs.Config.{texts_in}
use Rattle.oci_config.proofs.texts.texts_in.Given as goal

-- those before are the texts so far
abbrev pub invariant-loop-item : goal.invariant-loop-item
invariant-loop-item l =
    texts_in (items_view l.item-items)
    ≡ option_map (λ (rest : List (List ℕ)). l.texts.items ++ rest)
    (texts_in (items_view (drop l.item-index l.item-items)))

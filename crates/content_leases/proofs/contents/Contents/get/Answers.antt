use Rattle.std.proofs.Common.{◌≡◌, ◌∙◌, ap, option_map, Option, Some, None, Bor, refl, option_copied, List, ℕ, Global}
use Rattle.std.specs.Arc.{arc_value}
use Rattle.std.specs.declared.sync.Arc.{Arc}
use Rattle.content_leases.specs.StoreState.{content_in}
use Rattle.content_leases.proofs.ContentLemmas.{found}
use Rattle.content_leases.proofs.contents.Contents.get.Goals as goal

copied : (r : Option (Bor (Arc (List ℕ) Global)))
    → option_map (λ b. arc_value b.now) r ≡ option_map arc_value (option_copied r)
copied None = refl
copied (Some b) = refl

pub returns : goal.returns
returns c =
    copied c.get.result ∙ (ap (option_map arc_value) c.get.ensures.value
    ∙ (found c.args.digest.now c.self.inside.map.entries
    ∙ ap (λ v. content_in v.contents c.args.digest.now) c.self.view_is))

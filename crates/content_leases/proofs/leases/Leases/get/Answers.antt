use Rattle.std.proofs.Common.{◌∙◌, ap}
use Rattle.content_leases.specs.StoreState.{lease_in}
use Rattle.content_leases.proofs.LeaseLemmas.{found}
use Rattle.content_leases.proofs.leases.Leases.get.Goals as goal

pub returns : goal.returns
returns c =
    c.get.ensures.value
    ∙ (found c.args.name.now c.self.inside.map.entries ∙ ap (λ v. lease_in v.leases c.args.name.now) c.self.view_is)

use Rattle.std.proofs.Common.{◌∙◌, ap}
use Rattle.content_leases.specs.StoreState.{remove_lease}
use Rattle.content_leases.specs.Inside.Shown.{leases_of}
use Rattle.content_leases.proofs.LeaseLemmas.{removed}
use Rattle.content_leases.proofs.leases.Leases.remove.Goals as goal

pub returns-clause-leases : goal.returns-clause-leases
returns-clause-leases c =
    ap leases_of c.shift_remove-removed.ensures.entries ∙ (removed c.args.name.now c.self.inside.map.entries
    ∙ ap (λ v. remove_lease c.args.name.now v.leases) c.self.view_is)

use Rattle.std.proofs.Common.{◌∙◌, ap, ◌++◌, ◌∷◌, [], string_bytes}
use Rattle.content_leases.specs.StoreState.{lease_in}
use Rattle.content_leases.specs.Inside.Shown.{lease_of, leases_of}
use Rattle.content_leases.proofs.LeaseLemmas.{pushed}
use Rattle.content_leases.proofs.leases.Leases.push_reserved.Goals as goal

pub returns-clause-leases : goal.returns-clause-leases
returns-clause-leases c =
    let none = ap (λ v. lease_in v.leases (string_bytes c.args.name)) c.self.view_is ∙ c.requires.new in
    let is = rw c.unwrap.ensures at c.insert.ensures.entries in
    ap leases_of is ∙ (pushed c.args.name c.args.members c.self.inside.map.entries none
    ∙ ap (λ v. v.leases ++ lease_of (c.args.name, c.args.members) ∷ []) c.self.view_is)

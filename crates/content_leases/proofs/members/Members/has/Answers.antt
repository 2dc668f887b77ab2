use Rattle.std.proofs.Common.{◌∙◌, ap}
use Rattle.content_leases.specs.StoreState.{is_among}
use Rattle.content_leases.proofs.LeaseLemmas.{among}
use Rattle.content_leases.proofs.members.Members.has.Goals as goal

pub returns : goal.returns
returns c =
    c.contains.ensures
    ∙ (among c.args.digest.now c.self.inside.digests.keys ∙ ap (is_among c.args.digest.now) c.self.view_is)

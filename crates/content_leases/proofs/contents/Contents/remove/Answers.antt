use Rattle.std.proofs.Common.{◌∙◌, ap}
use Rattle.content_leases.specs.StoreState.{remove_content}
use Rattle.content_leases.specs.Inside.Shown.{contents_of}
use Rattle.content_leases.proofs.ContentLemmas.{removed}
use Rattle.content_leases.proofs.contents.Contents.remove.Goals as goal

pub returns-clause-contents : goal.returns-clause-contents
returns-clause-contents c =
    ap contents_of c.shift_remove-removed.ensures.entries ∙ (removed c.args.digest.now c.self.inside.map.entries
    ∙ ap (λ v. remove_content c.args.digest.now v.contents) c.self.view_is)

use Rattle.std.proofs.Common.{◌∙◌, ap, ◌++◌, ◌∷◌, [], string_bytes}
use Rattle.content_leases.specs.StoreState.{content_in}
use Rattle.content_leases.specs.Inside.Shown.{content_of, contents_of}
use Rattle.content_leases.proofs.ContentLemmas.{pushed}
use Rattle.content_leases.proofs.contents.Contents.push_reserved.Goals as goal

pub returns-clause-contents : goal.returns-clause-contents
returns-clause-contents c =
    let none = ap (λ v. content_in v.contents (string_bytes c.args.digest)) c.self.view_is ∙ c.requires.new in
    let is = rw c.unwrap.ensures at c.insert.ensures.entries in
    ap contents_of is ∙ (pushed c.args.digest c.args.bytes c.self.inside.map.entries none
    ∙ ap (λ v. v.contents ++ content_of (c.args.digest, c.args.bytes) ∷ []) c.self.view_is)

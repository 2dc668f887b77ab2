use Rattle.std.proofs.Common.{◌∙◌, ap, filter, List, ℕ, Bool, rules}
use Rattle.indexmap.proofs.CallerLemmas.{filter-RetainsPairs}
use Rattle.content_leases.specs.StoreState.{Content, is_held}
use Rattle.content_leases.specs.Inside.Shown.{ContentsValue, contents_of}
use Rattle.content_leases.proofs.ContentLemmas.{retained}
use Rattle.content_leases.proofs.contents.Contents.retain_held.Goals as goal

pub returns-clause-contents : goal.returns-clause-contents
returns-clause-contents c =
    let test : List ℕ → Bool = is_held c.args.used.now c.args.leases.now.leases in
    ap contents_of (filter-RetainsPairs _ _ _ (λ k v b w g call. search rules) _ _ c.retain.ensures.filtered)
    ∙ (retained test c.self.inside.map.entries
    ∙ ap (λ (v : ContentsValue). filter (λ (x : Content). test x.digest) v.contents) c.self.view_is)

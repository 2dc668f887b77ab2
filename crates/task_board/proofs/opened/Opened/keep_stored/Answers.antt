use Rattle.std.proofs.Common.{◌∙◌, ap, filter, is_some, List, ℕ, Bool, rules}
use Rattle.indexmap.proofs.CallerLemmas.{filter-RetainsPairs}
use Rattle.content_leases.specs.StoreState.{content_in}
use Rattle.task_board.specs.Inside.OpenedModules.{OpenedModule, opened_of}
use Rattle.task_board.proofs.OpenedLemmas.{retained}
use Rattle.task_board.proofs.opened.Opened.keep_stored.Goals as goal

pub returns : goal.returns
returns c =
    let test : List ℕ → Bool = λ d. is_some (content_in c.args.store.now.state.contents d) in
    ap opened_of (filter-RetainsPairs _ _ _ (λ k v b w g call. search rules) _ _ c.retain.ensures.filtered)
    ∙ (retained test c.self.inside.map.entries
    ∙ ap (λ (os : List OpenedModule). filter (λ (o : OpenedModule). test o.digest) os) c.self.view_is)

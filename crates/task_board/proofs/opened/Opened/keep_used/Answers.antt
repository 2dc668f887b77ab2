use Rattle.std.proofs.Common.{◌∙◌, ap, filter, List, ℕ, Bool, rules}
use Rattle.slab.specs.Slab.{entries}
use Rattle.indexmap.proofs.CallerLemmas.{filter-RetainsPairs}
use Rattle.content_leases.specs.StoreState.{is_among}
use Rattle.task_board.specs.BoardState.{used_by}
use Rattle.task_board.specs.Inside.OpenedModules.{OpenedModule, opened_of}
use Rattle.task_board.proofs.OpenedLemmas.{retained}
use Rattle.task_board.proofs.opened.Opened.keep_used.Goals as goal

pub returns : goal.returns
returns c =
    let test : List ℕ → Bool = λ d. is_among d (used_by (entries c.args.tasks.now)) in
    ap opened_of (filter-RetainsPairs _ _ _ (λ k v b w g call. search rules) _ _ c.retain.ensures.filtered)
    ∙ (retained test c.self.inside.map.entries
    ∙ ap (λ (os : List OpenedModule). filter (λ (o : OpenedModule). test o.digest) os) c.self.view_is)

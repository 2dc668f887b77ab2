use Rattle.std.proofs.Common.{◌≡◌, ◌∙◌, ap, ◌++◌, ◌∷◌, [], None, List, ℕ, string_bytes, sym, subst, rules}
use Rattle.task_board.specs.Inside.OpenedModules.{OpenedModule, opened_module, opened_of, module_in}
use Rattle.task_board.proofs.OpenedLemmas.{pushed}
use Rattle.task_board.proofs.opened.Opened.add.Goals as goal

pub returns-clause-ok : goal.returns-clause-ok
returns-clause-ok c =
    let before = c.self.inside.map.entries in
    let named : string_bytes c.in_ok-key.key ≡ c.args.digest.now = search rules in
    let none =
    subst (λ (d : List ℕ). module_in (opened_of before) d ≡ None) (sym named)
    (ap (λ os. module_in os c.args.digest.now) c.self.view_is ∙ c.requires) in
    let same : c.reserve.new.self.entries ≡ before = search rules in
    let is = rw c.unwrap.ensures at c.insert.ensures.entries in
    let at =
    is ∙ ap
    (λ es. Rattle.indexmap.specs.IndexMap.insert_entry Rattle.std.specs.String.string_eq es c.in_ok-key.key
    c.args.flat) same in
    ap opened_of at ∙ (pushed c.in_ok-key.key c.args.flat before none
    ∙ (ap (λ (os : List OpenedModule). os ++ opened_module (c.in_ok-key.key, c.args.flat) ∷ []) c.self.view_is
    ∙ ap (λ (d : List ℕ). c.args.self.now ++ record { digest = d; «module» = c.args.flat } ∷ []) named))

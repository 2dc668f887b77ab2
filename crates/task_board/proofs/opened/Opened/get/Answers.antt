use Rattle.std.proofs.Common.{◌∙◌, ap}
use Rattle.task_board.specs.Inside.OpenedModules.{module_in}
use Rattle.task_board.proofs.OpenedLemmas.{found}
use Rattle.task_board.proofs.opened.Opened.get.Goals as goal

pub returns : goal.returns
returns c =
    c.get.ensures.value
    ∙ (found c.args.digest.now c.self.inside.map.entries ∙ ap (λ v. module_in v c.args.digest.now) c.self.view_is)

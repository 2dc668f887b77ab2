use Rattle.step_machine.proofs.EvaluationContexts.{label_acts, frame_acts}
use Rattle.step_machine.proofs.laws.reductions_go_inside.Goals as goal

pub returns-clause-label : goal.returns-clause-label
returns-clause-label c p e vs n k g t is h = label_acts p e vs n k g t is h

pub returns-clause-frame : goal.returns-clause-frame
returns-clause-frame c p r outer ls vs n f t is h = frame_acts p r outer ls vs n f t is h

use Rattle.task_board.proofs.worked_claims.questions_are_answered.Goals as goal

pub returns : goal.returns
returns c store t id k a leaves says = says.answers leaves

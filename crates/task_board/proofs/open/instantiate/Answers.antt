use Rattle.task_board.specs.Refusals.{refused}
use Rattle.task_board.proofs.open.instantiate.Goals as goal

pub returns-clause-refused : goal.returns-clause-refused
returns-clause-refused c bytes is e at other = refused c.args.flat e is.0 is.1 (c.from_flat.ensures.refused e at other)

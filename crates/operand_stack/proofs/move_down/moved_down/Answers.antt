use Rattle.operand_stack.proofs.RowLemmas.{moved_is}
use Rattle.operand_stack.proofs.move_down.moved_down.Goals as goal

pub returns-clause-moved : goal.returns-clause-moved
returns-clause-moved c =
    moved_is c.args.words.items c.move_within.new.self.items c.args.to c.args.from c.args.count
    c.move_within.ensures.moved c.move_within.ensures.items

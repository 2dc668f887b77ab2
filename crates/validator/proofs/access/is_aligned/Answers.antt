use Rattle.validator.proofs.AccessLemmas.{unaligned}
use Rattle.validator.proofs.access.is_aligned.Goals as goal

pub returns-else-align-lt4 : goal.returns-else-align-lt4
returns-else-align-lt4 c = unaligned c.args.align c.args.bytes c.if-align-lt4.false c.requires

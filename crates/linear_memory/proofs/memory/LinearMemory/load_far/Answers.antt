use Rattle.std.proofs.Common.{◌≡◌, ◌∙◌, ◌++◌, ap, Some, length, replicate}
use Rattle.linear_memory.specs.Memory.{byte_count, read_at}
use Rattle.linear_memory.proofs.ZeroLemmas.{loaded_parts, part_at_most, number_fits}
use Rattle.linear_memory.proofs.memory.LinearMemory.load_far.Goals as goal

parts : (c : goal.After-number_of)
    → Some (c.in_ok-range.range.written.now ++ replicate c.in_ok-range.range.zeros 0)
    ≡ read_at c.args.self.now c.args.address (byte_count c.args.width)
parts c = c.in_ok-range.ensures ∙ ap (read_at c.args.self.now c.args.address) c.bytes.ensures

pub returns-clause-number : goal.returns-clause-number
returns-clause-number c =
    let range = c.in_ok-range.range in
    loaded_parts c.args.self.now c.args.address c.args.width range.written.now range.zeros c.number_of.result
    (parts c) c.number_of.ensures.number

pub returns-clause-range : goal.returns-clause-range
returns-clause-range c =
    let range = c.in_ok-range.range in
    let short = part_at_most c.args.self.now c.args.address (byte_count c.args.width) range.written.now range.zeros
    (parts c) in
    number_fits c.number_of.result (length range.written.now) (byte_count c.args.width) short c.number_of.ensures.range

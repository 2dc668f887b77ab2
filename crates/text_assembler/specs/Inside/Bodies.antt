-- How the bodies of blocks are read.
use Rattle.std.specs.Prelude.{ℕ, zero, suc, Result, Ok, Err}
use Rattle.text_assembler.specs.declared.fault.Fault.{Fault}
use Rattle.text_assembler.specs.declared.fault.Fault.TheVariants.{TooDeep}
use Rattle.text_assembler.specs.declared.scopes.Scopes.{Scopes}
use Rattle.text_assembler.specs.Names.{Ids}
use Rattle.text_assembler.specs.Instructions.{Bodies, read_body}

-- bodies inside, where this many more blocks may be open
unfoldable pub inner_of : Scopes → (locals : Ids) → (more : ℕ) → Result Bodies Fault
inner_of s locals zero = Err TooDeep
inner_of s locals (suc more) = Ok (read_body s locals more)

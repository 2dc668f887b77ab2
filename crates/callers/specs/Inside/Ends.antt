-- How a fault of a stream ends the lines of a caller.
use Rattle.request_lines.specs.declared.line_reader.Stop.{Stop}
use Rattle.request_lines.specs.declared.line_reader.Stop.TheVariants as stop
use Rattle.callers.specs.declared.caller.Driven.{Driven}
use Rattle.callers.specs.declared.caller.Driven.TheVariants as driven
use Rattle.callers.specs.declared.caller.WriteError.{WriteError}
use Rattle.callers.specs.declared.caller.WriteError.TheVariants as why

abbrev pub of_write : WriteError → Driven
of_write why.Stream = driven.WriteFault
of_write why.OutOfMemory = driven.NoMemory

abbrev pub of_read : Stop → Driven
of_read stop.Stream = driven.ReadFault
of_read stop.OutOfMemory = driven.NoMemory

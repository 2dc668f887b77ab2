-- A valid module may be shared by threads. An instruction has bodies, and a body instructions: the lemmas of their
-- knot show them all at once. The rest is found field by field.
use denote.Param.Send.{IsSend, IsSync, sendable}
use Rattle.std.proofs.Crossing as std_sent
use Rattle.wasm_ast.specs.contracts.instr.Simple as simples
use Rattle.wasm_ast.specs.contracts.instr.BlockType as types
use Rattle.wasm_ast.proofs.instr.Simple.TheSendSync as simples_cross
use Rattle.wasm_ast.proofs.instr.BlockType.TheSendSync as types_cross
use Rattle.wasm_ast.proofs.instr.Body.TheLaws.TheKnot as knot_laws
use Rattle.wasm_ast.specs.contracts.instr.Body as bodies
use Rattle.wasm_ast.specs.contracts.module.Func as funcs
use Rattle.wasm_ast.specs.contracts.module.Global as globals
use Rattle.wasm_ast.specs.contracts.module.Element as elements
use Rattle.wasm_ast.specs.contracts.module.Segment as segments
use Rattle.wasm_ast.specs.contracts.module.Module as modules
use Rattle.wasm_ast.proofs.sequence.Sequence.TheSendSync as sequence
use Rattle.wasm_ast.proofs.values.ValType.TheSendSync as val_type
use Rattle.wasm_ast.proofs.values.FuncType.TheSendSync as func_type
use Rattle.wasm_ast.proofs.module.Import.TheSendSync as import_
use Rattle.wasm_ast.proofs.module.Export.TheSendSync as export_
use Rattle.wasm_ast.proofs.module.Limits.TheSendSync as limits
use Rattle.wasm_ast.proofs.module.Mutability.TheSendSync as mutability
use Rattle.validator.specs.contracts.valid_module.Valid as valids
use Rattle.validator.specs.contracts.packed_module.PackedModule as packed_modules
use Rattle.validator.proofs.packed.PackedParams.TheSendSync as packed_params

simple_send : IsSend simples.the_row
simple_send = simples_cross.the_send

simple_sync : IsSync simples.the_row
simple_sync = simples_cross.the_sync

type_send : IsSend types.the_row
type_send = types_cross.the_send

type_sync : IsSync types.the_row
type_sync = types_cross.the_sync

body_send : IsSend bodies.the_row
body_send = search (sendable, std_sent.crosses, knot_laws.send-Body, simple_send, type_send) depth 60 fits 200000

body_sync : IsSync bodies.the_row
body_sync = search (sendable, std_sent.crosses, knot_laws.sync-Body, simple_sync, type_sync) depth 60 fits 200000

func_send : IsSend funcs.the_row
func_send =
    search (sendable, std_sent.crosses, body_send, sequence.the_send, val_type.the_send, mutability.the_send) depth 40

func_sync : IsSync funcs.the_row
func_sync =
    search (sendable, std_sent.crosses, body_sync, sequence.the_sync, val_type.the_sync, mutability.the_sync) depth 40

global_send : IsSend globals.the_row
global_send =
    search (sendable, std_sent.crosses, body_send, sequence.the_send, val_type.the_send, mutability.the_send) depth 40

global_sync : IsSync globals.the_row
global_sync =
    search (sendable, std_sent.crosses, body_sync, sequence.the_sync, val_type.the_sync, mutability.the_sync) depth 40

element_send : IsSend elements.the_row
element_send =
    search (sendable, std_sent.crosses, body_send, sequence.the_send, val_type.the_send, mutability.the_send) depth 40

element_sync : IsSync elements.the_row
element_sync =
    search (sendable, std_sent.crosses, body_sync, sequence.the_sync, val_type.the_sync, mutability.the_sync) depth 40

segment_send : IsSend segments.the_row
segment_send =
    search (sendable, std_sent.crosses, body_send, sequence.the_send, val_type.the_send, mutability.the_send) depth 40

segment_sync : IsSync segments.the_row
segment_sync =
    search (sendable, std_sent.crosses, body_sync, sequence.the_sync, val_type.the_sync, mutability.the_sync) depth 40

module_send : IsSend modules.the_row
module_send =
    search (
      sendable,
      std_sent.crosses,
      body_send,
      func_send,
      global_send,
      element_send,
      segment_send,
      func_type.the_send,
      import_.the_send,
      export_.the_send,
      limits.the_send,
      sequence.the_send,
    ) depth 40

module_sync : IsSync modules.the_row
module_sync =
    search (
      sendable,
      std_sent.crosses,
      body_sync,
      func_sync,
      global_sync,
      element_sync,
      segment_sync,
      func_type.the_sync,
      import_.the_sync,
      export_.the_sync,
      limits.the_sync,
      sequence.the_sync,
    ) depth 40

module_field_send : IsSend (modules.the_field).row
module_field_send =
    search (
      sendable,
      std_sent.crosses,
      body_send,
      func_send,
      global_send,
      element_send,
      segment_send,
      func_type.the_send,
      import_.the_send,
      export_.the_send,
      limits.the_send,
      sequence.the_send,
    ) depth 40

module_field_sync : IsSync (modules.the_field).row
module_field_sync =
    search (
      sendable,
      std_sent.crosses,
      body_sync,
      func_sync,
      global_sync,
      element_sync,
      segment_sync,
      func_type.the_sync,
      import_.the_sync,
      export_.the_sync,
      limits.the_sync,
      sequence.the_sync,
    ) depth 40

packed_send : IsSend packed_modules.the_row
packed_send =
    search (sendable, std_sent.crosses, module_send, module_field_send, packed_params.the_send) depth 40 fits 100000

packed_sync : IsSync packed_modules.the_row
packed_sync =
    search (sendable, std_sent.crosses, module_sync, module_field_sync, packed_params.the_sync) depth 40 fits 100000

pub valid_send : IsSend valids.the_row
valid_send = search (sendable, std_sent.crosses, packed_send, packed_sync) depth 40

pub valid_sync : IsSync valids.the_row
valid_sync = search (sendable, std_sent.crosses, packed_send, packed_sync) depth 40

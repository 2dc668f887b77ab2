-- A state's members, as they are put one after another.
use Rattle.std.specs.Prelude.{[], ◌∷◌, true, codes}
use Rattle.serde_json.specs.Data.{string, boolean, Members, put}
use Rattle.wasm_ast.specs.Names.{trap_name}
use Rattle.task_lifecycle.specs.Names.{signal_number}
use Rattle.task_requests.specs.declared.request.TaskState.{TaskState}
use Rattle.task_lifecycle.specs.declared.status.ExitRecord.{ExitRecord}
use Rattle.task_lifecycle.specs.declared.status.ExitRecord.TheVariants.{Trapped, Kill}
use Rattle.request_lines.specs.Shape.{members, count, id_member}
use Rattle.request_lines.specs.Reply.{status_member}

-- those that every state has
abbrev pub base_members : TaskState → Members
base_members s = members
    (id_member s.id ∷ (codes "n", count s.n) ∷ (codes "ok", boolean true)
    ∷ status_member s.status ∷ [])

-- with the trap or the signal of an end
abbrev pub with_detail : ExitRecord → Members → Members
with_detail (Trapped trap) ms = put (codes "trap") (string (trap_name trap)) ms
with_detail (Kill signal) ms = put (codes "signal") (count (signal_number signal)) ms
with_detail other ms = ms

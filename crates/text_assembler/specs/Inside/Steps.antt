-- Steps of reading that functions of the code share.
use Rattle.std.specs.Prelude.{ℕ, List, [], ◌∷◌, ◌++◌, Result, Ok, codes, slice_get}
use Rattle.wasm_ast.specs.declared.values.ValType.{ValType}
use Rattle.wasm_ast.specs.declared.values.FuncType.{FuncType}
use Rattle.text_assembler.specs.declared.fault.Fault.{Fault}
use Rattle.text_assembler.specs.declared.phrases.Binding.{Binding}
use Rattle.text_assembler.specs.declared.scopes.Scopes.{Scopes}
use Rattle.text_assembler.specs.Reading.{Read, ◌>>=◌}
use Rattle.text_assembler.specs.Numbers.{given}
use Rattle.text_assembler.specs.Names.{Ids, with_id}
use Rattle.text_assembler.specs.Phrases.{Reader, Tokens, id_of, skip_open, skip_group, skip_close, take_word, read_val_type, read_bindings, read_results, names_of, types_of}
use Rattle.text_assembler.specs.Instructions.{declare_all, params_of_use}
use Rattle.text_assembler.specs.Modules.{read_type, read_imported}

-- what reading gives, made into something else
abbrev pub made : {I X Y : Type 0} → (X → Y) → Read I X → Read I Y
made make read = read >>= λ x. Ok (make x.0, x.1)

-- `(` and a word, which is given
abbrev pub open_word : Reader (List ℕ)
open_word ts = skip_open ts >>= λ from. take_word from

-- `( keyword t )`
abbrev pub read_grouped : (keyword : List ℕ) → Reader ValType
read_grouped keyword ts = do
  from ← skip_group keyword ts
  t ← read_val_type from
  rest ← skip_close t.1
  Ok (t.0, rest)

-- `param* result*`
abbrev pub read_signature : Reader (List Binding × List ValType)
read_signature ts = do
  params ← read_bindings (codes "param") ts
  results ← read_results params.1
  Ok ((params.0, results.0), results.1)

abbrev pub func_type : List Binding → List ValType → FuncType
func_type params results = record { params = types_of params; results = results }

-- the parameters as locals, of a use of the type with this index
abbrev pub used_params : Scopes → (index : ℕ) → List Binding → List ValType → Result Ids Fault
used_params s index params results =
    given (slice_get s.signatures index) >>= λ t. params_of_use t params results

-- the types of locals, and the names of all, given those of the parameters
abbrev pub read_locals : Ids → Reader (List ValType × Ids)
read_locals ids ts = do
  locals ← read_bindings (codes "local") ts
  all ← declare_all ids (names_of locals.0)
  Ok ((types_of locals.0, all), locals.1)

abbrev pub declare_type : Scopes → Tokens → Result Scopes Fault
declare_type s ts = do
  ids ← with_id s.types (id_of ts)
  t ← read_type ts
  Ok (record s { types = ids; signatures = s.signatures ++ t.0 ∷ [] })

-- the functions with one that is imported
abbrev pub declare_import : Ids → Tokens → Result Ids Fault
declare_import ids ts = read_imported ts >>= λ names. with_id ids (id_of names.1)

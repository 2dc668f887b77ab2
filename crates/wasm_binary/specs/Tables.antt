-- The operators of each class in the order of their opcodes, for the laws over the tables of opcodes.
use Rattle.std.specs.Prelude.{List, [], ◌∷◌}
use Rattle.wasm_ast.specs.declared.operators.LoadOp.{LoadOp}
use Rattle.wasm_ast.specs.declared.operators.LoadOp.TheVariants as load
use Rattle.wasm_ast.specs.declared.operators.StoreOp.{StoreOp}
use Rattle.wasm_ast.specs.declared.operators.StoreOp.TheVariants as store
use Rattle.wasm_ast.specs.declared.operators.UnaryOp.{UnaryOp}
use Rattle.wasm_ast.specs.declared.operators.UnaryOp.TheVariants as unary
use Rattle.wasm_ast.specs.declared.operators.BinaryOp.{BinaryOp}
use Rattle.wasm_ast.specs.declared.operators.BinaryOp.TheVariants as binary
use Rattle.wasm_ast.specs.declared.operators.RelationOp.{RelationOp}
use Rattle.wasm_ast.specs.declared.operators.RelationOp.TheVariants as relation
use Rattle.wasm_ast.specs.declared.operators.ConvertOp.{ConvertOp}
use Rattle.wasm_ast.specs.declared.operators.ConvertOp.TheVariants as convert

abbrev pub all_loads : List LoadOp
all_loads =
    load.I32 ∷ load.I64 ∷ load.I32From8S ∷ load.I32From8U ∷ load.I32From16S ∷ load.I32From16U
    ∷ load.I64From8S ∷ load.I64From8U ∷ load.I64From16S ∷ load.I64From16U ∷ load.I64From32S
    ∷ load.I64From32U ∷ []

abbrev pub all_stores : List StoreOp
all_stores =
    store.I32 ∷ store.I64 ∷ store.I32To8 ∷ store.I32To16 ∷ store.I64To8 ∷ store.I64To16
    ∷ store.I64To32 ∷ []

abbrev pub all_unary : List UnaryOp
all_unary = unary.Clz ∷ unary.Ctz ∷ unary.Popcnt ∷ []

abbrev pub all_binary : List BinaryOp
all_binary =
    binary.Add ∷ binary.Sub ∷ binary.Mul ∷ binary.DivS ∷ binary.DivU ∷ binary.RemS ∷ binary.RemU
    ∷ binary.And ∷ binary.Or ∷ binary.Xor ∷ binary.Shl ∷ binary.ShrS ∷ binary.ShrU ∷ binary.Rotl
    ∷ binary.Rotr ∷ []

abbrev pub all_relations : List RelationOp
all_relations =
    relation.Eq ∷ relation.Ne ∷ relation.LtS ∷ relation.LtU ∷ relation.GtS ∷ relation.GtU
    ∷ relation.LeS ∷ relation.LeU ∷ relation.GeS ∷ relation.GeU ∷ []

abbrev pub all_conversions : List ConvertOp
all_conversions =
    convert.Wrap ∷ convert.ExtendS ∷ convert.ExtendU ∷ convert.I32From8S ∷ convert.I32From16S
    ∷ convert.I64From8S ∷ convert.I64From16S ∷ convert.I64From32S ∷ []

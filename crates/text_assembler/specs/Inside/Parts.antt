-- The module that collected parts are.
use Rattle.wasm_ast.specs.declared.module.Module.{Module}
use Rattle.text_assembler.specs.declared.parts.Parts.{Parts}

abbrev pub parts_of : Parts → Module
parts_of p = record {
  types = p.types.items;
  imports = p.imports.items;
  funcs = p.funcs.items;
  tables = p.tables.items;
  memories = p.memories.items;
  globals = p.globals.items;
  exports = p.exports.items;
  start = p.start;
  elements = p.elements.items;
  segments = p.segments.items;
}

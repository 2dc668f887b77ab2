-- What a person is shown of a configuration: its frames, read off the tree (4.2.12, 4.2.13).
use Rattle.std.specs.Prelude.{ℕ, List, [], ◌∷◌, ◌++◌, reverse, Option, Some, None}
use Rattle.wasm_ast.specs.declared.values.Value.{Value}
use Rattle.wasm_ast.specs.declared.shown.ShownFrame.{ShownFrame}
use Rattle.step_machine.specs.Configuration.{Tree, seq, Items, done, more, Item, plain, label, frame, State, running}

-- a frame of which nothing but its function and its locals is known yet
abbrev pub bare_frame : (func : ℕ) → (locals : List Value) → ShownFrame
bare_frame func locals =
    record { func = func; next = None; labels = []; locals = locals; operands = [] }

-- the place of the first of these instructions, or where it goes on after them
abbrev pub next_of : Items → (after : Option ℕ) → Option ℕ
next_of (more (plain place o) rest) after = Some place
next_of items after = after

-- the frames of a tree, the innermost first; `f` is what is known outside the tree of the frame that it is in
abbrev mutual
  pub tree_shown : (f : ShownFrame) → Tree → List ShownFrame
  tree_shown f (seq operands items) =
      items_shown (record f { operands = f.operands ++ reverse operands }) items

  pub items_shown : (f : ShownFrame) → Items → List ShownFrame
  items_shown f done = f ∷ []
  items_shown f (more item rest) = item_shown (record f { next = next_of rest f.next }) item

  pub item_shown : (f : ShownFrame) → Item → List ShownFrame
  item_shown f (plain place o) = record f { next = Some place } ∷ []
  item_shown f (label arity place target body) =
      tree_shown (record f { labels = place ∷ f.labels }) body
  item_shown f (frame arity func locals body) = tree_shown (bare_frame func locals) body ++ f ∷ []
  item_shown f item = f ∷ []

-- outside all frames there is the outermost of them
abbrev pub outer_shown : Tree → List ShownFrame
outer_shown (seq operands (more (frame arity func locals body) rest)) =
    tree_shown (bare_frame func locals) body
outer_shown (seq operands (more (label arity place target body) rest)) = outer_shown body
outer_shown tree = []

-- a configuration that has ended has no frames
abbrev pub shown : State → List ShownFrame
shown (running tree) = outer_shown tree
shown state = []

-- the operands that the next instruction finds, the newest first: those above the innermost label and frame
abbrev mutual
  pub innermost : Tree → List Value
  innermost (seq operands items) = items_innermost operands items

  pub items_innermost : (operands : List Value) → Items → List Value
  items_innermost operands done = operands
  items_innermost operands (more item rest) = item_innermost operands item

  pub item_innermost : (operands : List Value) → Item → List Value
  item_innermost operands (label arity place target body) = innermost body
  item_innermost operands (frame arity func locals body) = innermost body
  item_innermost operands item = operands

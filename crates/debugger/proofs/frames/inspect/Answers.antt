use Rattle.std.proofs.Common.{List, [], ◌∷◌, ◌++◌, ap, sym, subst, ◌∙◌, arith}
use Rattle.std.specs.Prelude.{All}
use Rattle.wasm_ast.specs.declared.module.Module.{Module}
use Rattle.wasm_ast.specs.declared.shown.ShownFrame.{ShownFrame}
use Rattle.step_machine.specs.MachineView.{state_of}
use Rattle.step_machine.specs.Shown.{shown}
use Rattle.debugger.specs.Inside.KnownPlaces.{IsKnown}
use Rattle.debugger.proofs.KnownLemmas.{is_there}
use Rattle.debugger.proofs.ToldFrames.{take_frame}
use Rattle.debugger.proofs.frames.inspect.Goals as goal

pub loop-index-preserved : goal.loop-index-preserved
loop-index-preserved c =
    let m = c.args.machine.now.module in
    let known = c.known_at.new.known.items in
    let found = c.in-Some.ensures.some in
    let frame = c.in_ok-shown_frame.field-0 in
    let at = c.in_ok-at.ensures.at in
    let all = subst (λ (x : Module). All (IsKnown x) known) c.flat.ensures c.in_ok-at.ensures.all in
    let there =
    is_there m known at.0 c.index.result.now c.in-Some.words found.0 c.in_ok-at.at all at.1 c.index.ensures found.2
    (at.2 ∙ c.func.ensures) (at.3 ∙ c.place.ensures) in
    let more =
    take_frame (shown (state_of c.args.machine.now)) c.loop-index.index found.0 frame found.1
    (c.in_ok-shown_frame.ensures m found.0 there) in
    record {
      room = omega (arith, c.push_reserved.ensures.capacity);
      known = all;
      told = c.push_reserved.ensures.items ∙ ap (λ (fs : List ShownFrame). fs ++ frame ∷ []) c.loop-index.invariant.told
          ∙ sym more;
    }

use Rattle.std.proofs.Common.{◌≡◌, refl, sym, subst, ap, ◌∙◌, ◌++◌, [], ◌∷◌, append_assoc}
use Rattle.std.specs.List.{AllZip}
use Rattle.callers.proofs.PairLemmas.{each-more, passed-all}
use Rattle.callers.proofs.living.start_all.Goals as goal

pub loop-caller-init : goal.loop-caller-init
loop-caller-init g c = (
  [],
  refl,
  subst (λ ts. AllZip (λ c' t. t.promise.caller.value ≡ c') [] ts) (sym c.in_ok-threads.ensures.items) tt,
)

pub loop-caller-preserved : goal.loop-caller-preserved
loop-caller-preserved g c =
    let inv = c.loop-caller.invariant in
    let x = c.in-Some.caller in (
      inv.0 ++ x ∷ [],
      append_assoc inv.0 (x ∷ []) c.next.new.self.rest.items
          ∙ ap (λ r. inv.0 ++ r) (sym c.in-Some.ensures.steps.0) ∙ inv.1,
      each-more _ inv.0 c.loop-caller.threads.items c.push.new.self.items x c.in_ok-thread.thread
          c.in-Ok.ensures.items inv.2 c.in_ok-thread.ensures,
    )

pub returns : goal.returns
returns g c =
    let outer = c.loop-caller.invariant in
    subst (λ xs. AllZip (λ c' t. t.promise.caller.value ≡ c') xs c.loop-caller.threads.items)
    (passed-all outer.0 c.loop-caller.caller-iterator.rest.items c.args.callers.items
    (sym c.loop-caller.caller-iterator.rest.ok.0 ∙ c.in-None.ensures.steps.0)
    (outer.1 ∙ c.into_iter-caller-iterator.ensures.into_iter_gives.0)) outer.2

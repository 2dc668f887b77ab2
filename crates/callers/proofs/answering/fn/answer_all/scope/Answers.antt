use denote.Param.Send.{sendable}
use Rattle.std.proofs.Crossing as std_sent
use Rattle.call_journal.proofs.SentShim.{shim_sync}
use Rattle.callers.proofs.answering.Caller.TheSendSync as caller
use Rattle.call_journal.proofs.seat.Seat.TheSendSync as seat
use Rattle.std.proofs.Common.{◌≡◌, refl, sym, subst, ap, ◌∙◌, ◌++◌, [], ◌∷◌, append_assoc, option_map, Some, None, IfSome}
use Rattle.std.specs.Prelude.{⊤}
use Rattle.callers.specs.Driving.{Drives, IsTold}
use Rattle.std.specs.List.{AllZip}
use Rattle.callers.proofs.PairLemmas.{each-more, each-through, some_of_ok, ok_map, passed-all, joined_is}
use Rattle.callers.proofs.answering.fn.answer_all.scope.Goals as goal

pub loop-caller-init : goal.loop-caller-init
loop-caller-init g c = (
  [],
  refl,
  subst (λ ts. AllZip (λ c' t. IfSome t (λ h. h.promise.caller.value ≡ c')) [] ts)
      (sym c.in_ok-threads.ensures.items) tt,
)

pub loop-caller-preserved : goal.loop-caller-preserved
loop-caller-preserved g c =
    let inv = c.loop-caller.invariant in
    let x = c.in-Some.caller in (
      inv.0 ++ x ∷ [],
      append_assoc inv.0 (x ∷ []) c.next.new.self.rest.items
          ∙ ap (λ r. inv.0 ++ r) (sym c.in-Some.ensures.steps.0) ∙ inv.1,
      each-more _ inv.0 c.loop-caller.threads.items c.push.new.self.items x c.ok.result c.in_ok-push.ensures.items inv.2
          (some_of_ok (λ h. h.promise.caller.value ≡ x) c.spawn_with.result c.ok.result c.ok.ensures.value
          (ok_map (λ h. h.promise ≡ record { caller = c.of.result }) (λ h. h.promise.caller.value ≡ x)
          c.spawn_with.result
          (λ h is. ap (λ p. p.caller.value) is ∙ c.of.ensures) c.spawn_with.ensures.ok)),
    )

pub loop-thread-preserved : goal.loop-thread-preserved
loop-thread-preserved g c =
    let inv = c.loop-thread.invariant in
    let t = c.in-Some-thread.thread in (
      inv.0 ++ t ∷ [],
      append_assoc inv.0 (t ∷ []) c.next-in-loop-thread.new.self.rest.items
          ∙ ap (λ r. inv.0 ++ r) (sym c.in-Some-thread.ensures.steps.0) ∙ inv.1,
      each-more _ inv.0 c.loop-thread.all.items c.push-in-loop-thread.new.self.items t c.finish.result
          c.in_ok-push-2.ensures.items inv.2 c.finish.ensures,
    )

pub returns : goal.returns
returns g c =
    let outer = c.loop-caller.invariant in
    let inner = c.loop-thread.invariant in
    let asked = passed-all outer.0 c.loop-caller.caller-iterator.rest.items c.captures.callers.items
    (sym c.loop-caller.caller-iterator.rest.ok.0 ∙ c.in-None.ensures.steps.0)
    (outer.1 ∙ c.into_iter-caller-iterator.ensures.into_iter_gives.0) in
    let joined = passed-all inner.0 c.loop-thread.thread-iterator.rest.items c.loop-caller.threads.items
    (sym c.loop-thread.thread-iterator.rest.ok.0 ∙ c.in-None-thread.ensures.steps.0)
    (inner.1 ∙ c.into_iter-thread-iterator.ensures.into_iter_gives.0) in
    each-through _ _ _
    (λ c' t a. joined_is (λ h. h.promise) (λ p. p.caller.value)
    (λ x b. Drives b.driven x.seat b.caller.seat (g.R.Source.remaining x.reader)
    (g.R.Source.remaining b.caller.reader) (Some []) (Some b.replies.items)
    × IsTold b.driven (g.R.Source.has_failed b.caller.reader) ⊤) c' t a)
    c.captures.callers.items c.loop-caller.threads.items c.loop-thread.all.items
    (subst
    (λ xs. AllZip (λ c' t. IfSome t (λ h. h.promise.caller.value ≡ c')) xs c.loop-caller.threads.items) asked outer.2)
    (subst (λ ts. AllZip (λ t a. IfSome a (λ a. (p : _) × (option_map (λ h. h.promise) t ≡ Some p)
    × (Drives a.driven p.caller.value.seat a.caller.seat (g.R.Source.remaining p.caller.value.reader)
    (g.R.Source.remaining a.caller.reader) (Some []) (Some a.replies.items)
    × IsTold a.driven (g.R.Source.has_failed a.caller.reader) ⊤))) ts c.loop-thread.all.items) joined inner.2)

pub spawn_with-requires-send-F : goal.spawn_with-requires-send-F
spawn_with-requires-send-F g c κs within =
    let j = c.requires.0 in
    let k = c.requires.1 in
    let h = c.requires.2 in
    let r = c.requires.3 in
    let n = c.requires.4 in
    search (sendable, std_sent.crosses, std_sent.send, shim_sync, caller.the_send, seat.the_send) depth 30 fits 100000

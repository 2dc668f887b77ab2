-- One history, replayed twice.
use Rattle.std.proofs.Common.{◌≡◌, ℕ, List, [], ◌∷◌, Option, Some, None, option_map, refl, sym, ap, ◌∙◌, subst}
use Rattle.task_requests.specs.declared.request.Request.{Request}
use Rattle.task_board.specs.BoardState.{Task, BoardState, empty, task_of, with_task}
use Rattle.task_board.specs.Sound.{IsBoard}
use Rattle.task_board.proofs.EntryLemmas.{none_is_not, some_is}
use Rattle.task_board.proofs.EffectLemmas.{answers_sound}
use Rattle.task_board.proofs.LawLemmas.{empty_sound, One, Faulty}
use Rattle.call_journal.specs.declared.entry.Entry.{Entry}
use Rattle.call_journal.specs.declared.entry.Found.{Found}
use Rattle.call_journal.specs.Finding.{found_in}
use Rattle.call_journal.specs.Replay.{ComesTo, Finds, no_task, task, Replays, IsReplay, IsAlike}
use Rattle.call_journal.proofs.ComingLemmas.{same_task}
use Rattle.call_journal.proofs.SinceLemmas.{MayCome, looks}
use Rattle.call_journal.proofs.SliceLemmas.{SlicesAdvance, AdvancesAreSlices}
use Rattle.call_journal.proofs.LegalLemmas.{finds_leads}
use Rattle.call_journal.proofs.AlikeLemmas.{both_changed}
use Rattle.call_journal.proofs.SameLemmas.{TextsAgree, calls_alike}

same_found : (t u v : Task) → ComesTo t u → ComesTo t v → found_in u ≡ found_in v → u ≡ v
same_found t u v come come' is = same_task t u v come come' (ap (λ (f : Found). f.n) is) (ap (λ (f : Found). f.out) is)

-- what a call finds on two boards that are alike makes them alike
finds_alike : (s s' : BoardState) (r : Request) (f g : Option Found) (mid mid' : BoardState) → IsAlike s s'
    → Finds s r f mid → Finds s' r g mid' → f ≡ g → IsAlike mid mid'
finds_alike s s' r _ _ _ _ same (no_task none) (no_task none') is = same
finds_alike s s' r _ _ _ _ same (no_task none) (task id u u' named at come) is = absurd (none_is_not (found_in u') is)
finds_alike s s' r _ _ _ _ same (task id t t' named at come) (no_task none) is =
    absurd (none_is_not (found_in t') (sym is))
finds_alike s s' r _ _ _ _ same (task id t t' named at come) (task id' u u' named' at' come') is =
    let own : id ≡ id' = some_is id id' (sym named ∙ named') in
    let one : u ≡ t =
    some_is u t (sym at' ∙ (ap (λ (x : List ℕ). task_of x s'.tasks) (sym own) ∙ (sym (same.tasks id) ∙ at))) in
    let both : t' ≡ u' =
    same_found t t' u' come (subst (λ (x : Task). ComesTo x u') one come') (some_is (found_in t') (found_in u') is) in
    subst (λ (x : Task). IsAlike (with_task s t') (with_task s' x)) both (record {
      store = same.store;
      creates = same.creates;
      tasks = both_changed t' s.tasks s'.tasks same.tasks;
    })

-- one task has come to the same count and mark in two ways
one_now : (o p q : Option Task) → MayCome o p → MayCome o q → option_map found_in p ≡ option_map found_in q → p ≡ q
one_now None None None x y is = refl
one_now None None (Some v) x y is = absurd y
one_now None (Some u) q x y is = absurd x
one_now (Some t) None q x y is = absurd x
one_now (Some t) (Some u) None x y is = absurd y
one_now (Some t) (Some u) (Some v) x y is = ap Some (same_found t u v x y (some_is (found_in u) (found_in v) is))

module _ (legal : SlicesAdvance) (slices : AdvancesAreSlices) (one : One) (faulty : Faulty) (texts : TextsAgree) where
  replays_alike : (h : List Entry) (s s' n n' : BoardState) → IsBoard s → IsBoard s' → IsAlike s s' → Replays s h n
      → Replays s' h n' → IsAlike n n'
  replays_alike [] s s' n n' b b' same x y =
      subst (λ (z : BoardState). IsAlike z n') (sym x) (subst (λ (z : BoardState). IsAlike s z) (sym y) same)
  replays_alike (e ∷ h) s s' n n' b b' same x y =
      let f = finds_leads legal slices s e.request e.found x.0 b x.3 in
      let g = finds_leads legal slices s' e.request e.found y.0 b' y.3 in
      let mids = finds_alike s s' e.request e.found e.found x.0 y.0 same x.3 y.3 refl in
      replays_alike h x.1 y.1 n n' (answers_sound x.0 e.request x.2 x.1 f.1 x.4)
      (answers_sound y.0 e.request y.2 y.1 g.1 y.4)
      (calls_alike one faulty texts x.0 y.0 e.request x.2 y.2 x.1 y.1 f.1.ids g.1.ids mids x.4 y.4) x.5 y.5

  pub twice_alike : (h : List Entry) (s s' : BoardState) → Replays empty h s → Replays empty h s' → IsAlike s s'
  twice_alike h s s' x y =
      replays_alike h empty empty s s' empty_sound empty_sound
      (record { store = refl; creates = refl; tasks = λ id. refl }) x y

  pub now_alike : (h : List Entry) (now now' : BoardState) → IsReplay h now → IsReplay h now'
      → ((id : List ℕ) → option_map found_in (task_of id now.tasks) ≡ option_map found_in (task_of id now'.tasks))
      → IsAlike now now'
  now_alike h now now' x y is =
      let past = twice_alike h x.0 y.0 x.1 y.1 in
      record {
        store = x.2.store ∙ (past.store ∙ sym y.2.store);
        creates = x.2.creates ∙ (past.creates ∙ sym y.2.creates);
        tasks = λ id.
            one_now (task_of id x.0.tasks) (task_of id now.tasks) (task_of id now'.tasks)
            (looks id x.0.tasks now.tasks x.2.tasks)
            (subst (λ (o : Option Task). MayCome o (task_of id now'.tasks)) (sym (past.tasks id))
            (looks id y.0.tasks now'.tasks y.2.tasks))
            (is id);
      }

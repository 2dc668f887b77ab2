-- A history that replays is the journal of some run.
use Rattle.std.proofs.Common.{◌≡◌, ◌≢◌, ℕ, List, [], ◌∷◌, ◌++◌, bytes_eq, Option, Some, option_map, refl, sym, ap, ap₂, ◌∙◌, subst}
use Rattle.std.proofs.lemmas.List.{append_assoc, append-nil}
use Rattle.content_leases.specs.StoreState.{StoreState}
use Rattle.task_requests.specs.declared.event.Event.TheVariants as event
use Rattle.task_requests.specs.declared.event.EventReply.TheVariants as answer
use Rattle.task_requests.specs.declared.request.Request.{Request}
use Rattle.task_board.specs.BoardState.{Task, Entries, BoardState, empty, entry_of, task_of, with_task, change_task}
use Rattle.task_board.specs.Sound.{Each, AreDistinct, ids_of, IsBoard}
use Rattle.task_board.proofs.EntryLemmas.{cond_is_true, cond_is_false, same_id, other_id}
use Rattle.task_board.proofs.StepLemmas.{task_named, sound_of, changed_sound}
use Rattle.task_board.proofs.LawLemmas.{empty_sound}
use Rattle.task_board.proofs.EffectLemmas.{answers_sound}
use Rattle.call_journal.specs.declared.entry.Entry.{Entry}
use Rattle.call_journal.specs.declared.entry.Found.{Found}
use Rattle.call_journal.specs.Finding.{found_of}
use Rattle.call_journal.specs.Replay.{ComesTo, stays, Finds, no_task, task, Replays, HaveCome, IsLegal, IsReplay}
use Rattle.call_journal.specs.Records.{Records, ends, call}
use Rattle.call_journal.proofs.SinceLemmas.{same_id_of, now_there}
use Rattle.call_journal.proofs.JournalLemmas.{found_at}
use Rattle.call_journal.proofs.SliceLemmas.{HasRun, Leads, SlicesAdvance, AdvancesAreSlices, coming_leads, coming_sound}

same_number : (t u : Task) → ComesTo t u → u.incarnation ≡ t.incarnation
same_number t _ stays = refl
same_number t _ _ = refl

-- ---- one task among others

each_at : (P : List ℕ → Type 0) (front : Entries) (e : ℕ × Task) (es : Entries)
    → Each P (ids_of (front ++ e ∷ es)) → P e.1.id
each_at P [] e es each = each.0
each_at P (x ∷ front) e es each = each_at P front e es each.1

found_there : (front : Entries) (e : ℕ × Task) (es : Entries) → AreDistinct (ids_of (front ++ e ∷ es))
    → task_of e.1.id (front ++ e ∷ es) ≡ Some e.1
found_there [] e es d =
    ap (option_map (λ (x : ℕ × Task). x.1))
    (cond_is_true (bytes_eq e.1.id e.1.id) (Some e) (entry_of e.1.id es) (same_id e.1.id e.1.id refl))
found_there (x ∷ front) e es d =
    ap (option_map (λ (y : ℕ × Task). y.1))
    (cond_is_false (bytes_eq x.1.id e.1.id) (Some x) (entry_of e.1.id (front ++ e ∷ es))
    (other_id x.1.id e.1.id (each_at (λ y. x.1.id ≢ y) front e es d.0))) ∙ found_there front e es d.1

changed_there : (front : Entries) (e : ℕ × Task) (es : Entries) (u : Task) → u.id ≡ e.1.id
    → AreDistinct (ids_of (front ++ e ∷ es)) → change_task u (front ++ e ∷ es) ≡ front ++ (e.0, u) ∷ es
changed_there [] e es u same d =
    cond_is_true (bytes_eq e.1.id u.id) ((e.0, u) ∷ es) (e ∷ change_task u es) (same_id e.1.id u.id (sym same))
changed_there (x ∷ front) e es u same d =
    cond_is_false (bytes_eq x.1.id u.id) ((x.0, u) ∷ front ++ e ∷ es) (x ∷ change_task u (front ++ e ∷ es))
    (other_id x.1.id u.id (λ is. each_at (λ y. x.1.id ≢ y) front e es d.0 (is ∙ same)))
    ∙ ap (λ (xs : Entries). x ∷ xs) (changed_there front e es u same d.1)

module _ (legal : SlicesAdvance) (slices : AdvancesAreSlices) where
  -- ---- one entry

  task_leads : (s : BoardState) (t u : Task) → IsBoard s → task_of t.id s.tasks ≡ Some t → ComesTo t u
      → Leads s (with_task s u) × IsBoard (with_task s u)
  task_leads s t u b at come =
      let sound = sound_of s t.id t b at in (
        coming_leads legal slices s.creates s t u sound at come,
        changed_sound s t.id t u b at (same_id_of t u come) (same_number t u come)
            (coming_sound legal slices s.creates t u sound come),
      )

  -- slices lead to the board that a call finds
  pub finds_leads : (s : BoardState) (r : Request) (f : Option Found) (mid : BoardState) → IsBoard s → Finds s r f mid
      → Leads s mid × IsBoard mid × (found_of mid r ≡ f)
  finds_leads s r _ _ b (no_task none) = ((λ h s' rest. rest), b, none)
  finds_leads s r _ _ b (task id t u named at come) =
      let own = task_named id s.tasks t at in
      let to = task_leads s t u b (ap (λ (x : List ℕ). task_of x s.tasks) own ∙ at) come in
      let same = same_id_of t u come in
      let there : task_of u.id (change_task u s.tasks) ≡ Some u =
      now_there u t s.tasks (ap (λ (x : List ℕ). task_of x s.tasks) (same ∙ own) ∙ at) in (
        to.0,
        to.1,
        found_at (with_task s u) r id (Some u) named
            (subst (λ (x : List ℕ). task_of x (change_task u s.tasks) ≡ Some u) (same ∙ own) there),
      )

  -- ---- histories

  history_runs : (h : List Entry) (s s' : BoardState) → IsBoard s → Replays s h s'
      → IsBoard s' × ((back : List Entry) (last : BoardState) → HasRun s' back last → HasRun s (h ++ back) last)
  history_runs [] s s' b same =
      (subst IsBoard (sym same) b, λ back last run. subst (λ (x : BoardState). HasRun x back last) same run)
  history_runs (e ∷ h) s s' b r =
      let found = finds_leads s e.request e.found r.0 b r.3 in
      let rest = history_runs h r.1 s' (answers_sound r.0 e.request r.2 r.1 found.1 r.4) r.5 in (
        rest.0,
        λ back last run.
            let next = rest.1 back last run in
            found.0 (e ∷ h ++ back) last (
              event.Call e.request ∷ next.0,
              answer.Called r.2 ∷ next.1,
              subst
                  (λ (f : Option Found).
                  Records r.0 (event.Call e.request ∷ next.0) (answer.Called r.2 ∷ next.1)
                  (record { seat = e.seat; request = e.request; found = f } ∷ h ++ back) last)
                  found.2 (call r.0 r.1 last e.seat e.request r.2 next.0 next.1 (h ++ back) r.4 next.2),
            ),
      )

  -- ---- the present

  -- the tasks in front have come to the present
  since_leads : (s : BoardState) (front es us : Entries) → IsBoard s → s.tasks ≡ front ++ es → HaveCome es us
      → Leads s (record s { tasks = front ++ us })
  since_leads s front [] [] b is come =
      let same : record s { tasks = front ++ [] } ≡ s = ap (λ (xs : Entries). record s { tasks = xs }) (sym is) in
      subst (λ (x : BoardState). Leads s x) (sym same) (λ h s' rest. rest)
  since_leads s front [] (u ∷ us) b is come = absurd come
  since_leads s front (e ∷ es) [] b is come = absurd come
  since_leads s front (e ∷ es) (u ∷ us) b is come =
      let d = subst (λ (xs : Entries). AreDistinct (ids_of xs)) is b.ids in
      let at : task_of e.1.id s.tasks ≡ Some e.1 = ap (task_of e.1.id) is ∙ found_there front e es d in
      let to = task_leads s e.1 u.1 b at come.1 in
      let tasks : change_task u.1 s.tasks ≡ (front ++ u ∷ []) ++ es =
      ap (change_task u.1) is ∙ (changed_there front e es u.1 (same_id_of e.1 u.1 come.1) d
      ∙ (ap (λ (k : ℕ). front ++ (k, u.1) ∷ es) come.0 ∙ sym (append_assoc front (u ∷ []) es))) in
      let rest = since_leads (with_task s u.1) (front ++ u ∷ []) es us to.1 tasks come.2 in
      let now : record s { tasks = (front ++ u ∷ []) ++ us } ≡ record s { tasks = front ++ u ∷ us } =
      ap (λ (xs : Entries). record s { tasks = xs }) (append_assoc front (u ∷ []) us) in
      λ h s' run. to.0 h s' (rest h s' (subst (λ (x : BoardState). HasRun x h s') (sym now) run))

  pub replay_runs : (h : List Entry) (now : BoardState) → IsReplay h now → HasRun empty h now
  replay_runs h now is =
      let s = is.0 in
      let past = history_runs h empty s empty_sound is.1 in
      let same : record s { tasks = now.tasks } ≡ now =
      ap₂ (λ (store : StoreState) (n : ℕ). record now { store = store; creates = n }) (sym is.2.store)
      (sym is.2.creates)
      in
      let lead = since_leads s [] s.tasks now.tasks past.0 refl is.2.tasks in
      let last : HasRun s [] now =
      subst (λ (x : BoardState). HasRun s [] x) same
      (lead [] (record s { tasks = now.tasks }) ([], [], ends (record s { tasks = now.tasks }))) in
      subst (λ (x : List Entry). HasRun empty x now) (append-nil h) (past.1 [] now last)

  pub legal_runs : (h : List Entry) → IsLegal h → (s : BoardState) × HasRun empty h s
  legal_runs h legal =
      let s = legal.0 in (
        s,
        subst (λ (x : List Entry). HasRun empty x s) (append-nil h)
            ((history_runs h empty s empty_sound legal.1).1 [] s ([], [], ends s)),
      )

-- The entries of a consistent journal are right ones, whose lines tell them. A history is the list of a journal's entries with the latest first.
use Rattle.std.proofs.Common.{◌≡◌, ℕ, zero, suc, ◌+◌, ◌^◌, ◌<◌, ◌≤◌, true, false, ◌&&◌, eqb, inl, inr, List, [], ◌∷◌, ◌++◌, length, length-append, reverse, slice_get, Option, Some, None, refl, sym, ap, subst, arith, true≢false}
use Rattle.std.specs.Prelude.{All, if◌then◌else◌}
use Rattle.std.specs.List.{list_any, AllByRecursion}
use Rattle.std.proofs.lemmas.Bool.{cases_Bool, or_cases, eq-eqb, cond_both}
use Rattle.std.proofs.lemmas.List.{reverse-reverse}
use Rattle.std.proofs.lemmas.List.Elements.{recursion_from_All, All-from_recursion}
use Rattle.sv_world.specs.declared.action.Action.{Action}
use Rattle.sv_world.specs.declared.world.Shape.{Shape}
use Rattle.sv_world.specs.Faults.{first_fault_of_action}
use Rattle.sv_wire.specs.declared.message.Request.{Request}
use Rattle.sv_wire.specs.declared.message.Request.TheVariants as requests
use Rattle.sv_wire.specs.Laws.{IsRequest}
use Rattle.sv_journal.specs.declared.entry.Entry.{Entry}
use Rattle.sv_journal.specs.Sessions.{is_end, is_ended}
use Rattle.sv_journal.specs.Answer.{Rules}
use Rattle.sv_client.specs.declared.trace.Event.{Event}
use Rattle.sv_client.specs.declared.trace.Event.TheVariants as events
use Rattle.sv_client.specs.declared.trace.Trace.{Trace}
use Rattle.sv_client.specs.Traces.{requests_of}
use Rattle.sv_client.specs.Taking.{Identity}
use Rattle.sv_client.specs.Proper.{AreProper, Proper, identity_of}
use Rattle.sv_scenario.specs.declared.scenario.Plan.{Plan}
use Rattle.sv_scenario.specs.declared.scenario.Scenario.{Scenario}
use Rattle.sv_scenario.specs.declared.scenario.Step.{Step}
use Rattle.sv_scenario.specs.Limits.{IsGoodScenario}
use Rattle.sv_scenario.specs.Sessions.{session_count}
use Rattle.sv_script.specs.Following.{FollowsToEnd, is_step, steps_done, events_of, event_of, led_by}
use Rattle.sv_script.specs.Laws.{StepsAreDoneInOrder}
use Rattle.law_system.specs.Fits.{requests_in, has_session, is_owned, FitsOne}
use Rattle.law_system.specs.Records.{rules_of, ends_in, EachTrace, ScriptsAreFollowed, IsRecordOf}
use Rattle.law_system.proofs.Histories.{IsEarlier, same, after, earlier-rest, earlier-legal}
use Rattle.law_system.proofs.Entered.{of-from, request-there}
use Rattle.law_asked.specs.Asked.{EventFits, HasNumbers, RequestsAreMessages, AcceptedAreFew}
use Rattle.law_asked.specs.Numbers.{StepFits, PlanFits, ScenarioFits}
use Rattle.law_system.proofs.Every.{each-at, each-left, each-reverse}
use Rattle.law_system.proofs.Limits.{limits_of, objects_few}
use Rattle.law_asked.proofs.Owned.{entry-at}
use Rattle.law_asked.proofs.Counts.{counts-each}
use Rattle.law_asked.proofs.Made.{Makes, Asks, asked-have}
use Rattle.sv_replay.proofs.Scripts.{event_fits}
use Rattle.sv_lines.specs.Told.{IsTold}
use Rattle.sv_check.specs.Parts.{IsEntryAfter, AreEntries}
use Rattle.sv_check.proofs.Serving.{some_ended}

-- ---- The actions that are made are those of the scripts

with_fits : (o : Option Event) (es : List Event) → ((e : Event) → o ≡ Some e → EventFits e) → AllByRecursion EventFits es → AllByRecursion EventFits (led_by o es)
with_fits None es f all = all
with_fits (Some e) es f all = (f e refl, all)

script_fits : (ss : List Step) → AllByRecursion StepFits ss → AllByRecursion EventFits (events_of ss)
script_fits [] all = tt
script_fits (step ∷ ss) all = with_fits (event_of step) (events_of ss) (λ e h. event_fits step e h all.0) (script_fits ss all.1)

last_apart : (P : Event → Type 0) (es : List Event) (e : Event) → AllByRecursion P (es ++ e ∷ []) → P e × AllByRecursion P es
last_apart P [] e all = (all.0, tt)
last_apart P (d ∷ es) e all = let more = last_apart P es e all.1 in (more.0, (all.0, more.1))

done_fits : (t : List Event) → AllByRecursion EventFits (steps_done t) → AllByRecursion EventFits t
done_fits [] all = tt
done_fits (events.Join s ∷ t) all = (tt, done_fits t all)
done_fits (events.Got s reply ∷ t) all = (tt, done_fits t all)
done_fits (events.Leave ∷ t) all = (tt, done_fits t all)
done_fits (events.Make action ∷ t) all = let parts = last_apart EventFits (steps_done t) (events.Make action) all in (parts.0, done_fits t parts.1)
done_fits (events.Poll ∷ t) all = (tt, done_fits t (last_apart EventFits (steps_done t) events.Poll all).1)
done_fits (events.Observe objects wait ∷ t) all = let parts = last_apart EventFits (steps_done t) (events.Observe objects wait) all in (parts.0, done_fits t parts.1)
done_fits (events.Cut ∷ t) all = (tt, done_fits t (last_apart EventFits (steps_done t) events.Cut all).1)
done_fits (events.Quit ∷ t) all = (tt, done_fits t (last_apart EventFits (steps_done t) events.Quit all).1)
done_fits (events.Show objects ∷ t) all = (tt, done_fits t (last_apart EventFits (steps_done t) (events.Show objects) all).1)

made_fits : StepsAreDoneInOrder → (shape : Shape) (plan : Plan) (L : Trace) → FollowsToEnd shape plan.steps L → PlanFits plan → AllByRecursion EventFits (reverse L.events)
made_fits order shape plan L f fits =
    let left = f.follows.left in
    let all = subst (AllByRecursion EventFits) (sym (order (identity_of shape L) plan.steps (reverse L.events) left f.follows.follows))
    (script_fits plan.steps (recursion_from_All StepFits plan.steps fits)) in
    done_fits (reverse L.events) (each-left EventFits (steps_done (reverse L.events)) (events_of left) all)

all_made_fit : StepsAreDoneInOrder → (shape : Shape) (plans : List Plan) (Ls : List Trace) → ScriptsAreFollowed shape plans Ls → AllByRecursion PlanFits plans →
    AllByRecursion (λ (L : Trace). All EventFits L.events) Ls
all_made_fit order shape [] [] w fits = tt
all_made_fit order shape [] (L ∷ Ls) w fits = absurd w
all_made_fit order shape (plan ∷ plans) [] w fits = absurd w
all_made_fit order shape (plan ∷ plans) (L ∷ Ls) w fits = (
  All-from_recursion EventFits L.events
      (subst (AllByRecursion EventFits) (reverse-reverse L.events) (each-reverse EventFits (reverse L.events) (made_fits order shape plan L w.0 fits.0))),
  all_made_fit order shape plans Ls w.1 fits.1,
)

-- ---- Requests that are told

-- No cause of refusal applies.
abbrev IsChecked : Shape → Action → Type 0
IsChecked shape a = first_fault_of_action shape a ≡ None

made_checked : (who : Identity) (first : ℕ) (t : List Event) → AreProper who first t → AllByRecursion EventFits t → AllByRecursion (Makes (IsChecked who.shape)) t
made_checked who first [] p f = tt
made_checked who first (events.Make a ∷ t) p f = (p.0.good, made_checked who first t p.1 f.1)
made_checked who first (events.Join s ∷ t) p f = (tt, made_checked who first t p.1 f.1)
made_checked who first (events.Poll ∷ t) p f = (tt, made_checked who first t p.1 f.1)
made_checked who first (events.Observe objects wait ∷ t) p f = (f.0, made_checked who first t p.1 f.1)
made_checked who first (events.Leave ∷ t) p f = (tt, made_checked who first t p.1 f.1)
made_checked who first (events.Got s reply ∷ t) p f = (tt, made_checked who first t p.1 f.1)
made_checked who first (events.Cut ∷ t) p f = (tt, made_checked who first t p.1 f.1)
made_checked who first (events.Quit ∷ t) p f = (tt, made_checked who first t p.1 f.1)
made_checked who first (events.Show objects ∷ t) p f = (tt, made_checked who first t p.1 f.1)

asked_told : (shape : Shape) (q : Request) → Asks (IsChecked shape) q → IsRequest q → IsTold shape q
asked_told shape (requests.Join client life interest) a m = m.fits
asked_told shape (requests.Submit seq action) a m = (m.fits, a)
asked_told shape (requests.Done results) a m = m.fits
asked_told shape requests.Poll a m = tt
asked_told shape (requests.Observe objects wait) a m = m.fits
asked_told shape requests.Leave a m = tt
asked_told shape requests.Bad a m = absurd a
asked_told shape requests.End a m = tt

end_told : (shape : Shape) (q : Request) → is_end q ≡ true → IsTold shape q
end_told shape requests.End e = tt
end_told shape (requests.Join client life interest) e = absurd (true≢false (sym e))
end_told shape (requests.Submit seq action) e = absurd (true≢false (sym e))
end_told shape (requests.Done results) e = absurd (true≢false (sym e))
end_told shape requests.Poll e = tt
end_told shape (requests.Observe objects wait) e = absurd (true≢false (sym e))
end_told shape requests.Leave e = tt
end_told shape requests.Bad e = absurd (true≢false (sym e))

-- The trace that has a session, and its place.
record IsOwner (Ls : List Trace) (s : ℕ) : Type 0 where
  place : ℕ
  trace : Trace
  there : slice_get Ls place ≡ Some trace
  has : has_session trace s ≡ true

owner : (Ls : List Trace) (s : ℕ) → list_any (λ (L : Trace). has_session L s) Ls ≡ true → IsOwner Ls s
owner [] s h = absurd (true≢false (sym h))
owner (L ∷ Ls) s h =
    elim (or_cases (has_session L s) (list_any (λ (M : Trace). has_session M s) Ls) h) [
      | inl e ↦ record { place = 0; trace = L; there = refl; has = e }
      | inr e ↦ (let o = owner Ls s e in record { place = suc o.place; trace = o.trace; there = o.there; has = o.has })
    ]

-- ---- Ends

ends_more : (s : ℕ) (h g : List Entry) → IsEarlier h g → ends_in h s ≤ ends_in g s
ends_more s h whole same = omega arith
ends_more s h whole (after {g} e b) =
    let less = ends_more s h g b in
    cond_both (eqb e.session s && is_end e.request) (suc (ends_in g s)) (ends_in g s) (λ (n : ℕ). ends_in h s ≤ n) (λ t. omega (arith, less)) (λ t. less)

one_end : (e : Entry) (h : List Entry) → is_end e.request ≡ true → ends_in (e ∷ h) e.session ≡ suc (ends_in h e.session)
one_end e h t = let here = eq-eqb e.session e.session refl in rw (here, t) refl

not_ended : (h : List Entry) (s : ℕ) → ends_in h s ≡ 0 → is_ended h s ≡ false
not_ended h s none =
    elim (cases_Bool (is_ended h s)) [
      | inl x ↦ (let some = some_ended h s x in absurd (omega (arith, some, none)))
      | inr x ↦ x
    ]

-- ---- All entries

module _ (scenario : Scenario) (H : List Entry) (Ls : List Trace) (good : IsGoodScenario scenario) (numbers : ScenarioFits scenario) (g : IsRecordOf scenario H Ls)
    (w : ScriptsAreFollowed scenario.world.shape scenario.clients Ls) (order : StepsAreDoneInOrder) (few : AcceptedAreFew) (messages : RequestsAreMessages) where
  abbrev r : Rules
  r = rules_of scenario

  abbrev shape : Shape
  shape = scenario.world.shape

  has_numbers : HasNumbers r H Ls
  has_numbers = record {
    objects = objects_few scenario good;
    opening = numbers.values;
    made = All-from_recursion (λ (L : Trace). All EventFits L.events) Ls (all_made_fit order shape scenario.clients Ls w (recursion_from_All PlanFits scenario.clients numbers.plans));
    counts = counts-each shape Ls g.proper;
    positions = (let most = few r H (session_count scenario) 1024 refl g.legal g.sessions in omega (arith, most, good.sessions));
  }

  one_of : (i : ℕ) (L : Trace) → slice_get Ls i ≡ Some L → FitsOne shape H L
  one_of i L there = each-at (FitsOne shape H) Ls i L (recursion_from_All (FitsOne shape H) Ls g.fits.each) there

  proper_of : (i : ℕ) (L : Trace) → slice_get Ls i ≡ Some L → Proper shape L
  proper_of i L there = each-at (Proper shape) Ls i L (recursion_from_All (Proper shape) Ls g.proper) there

  request_told : (i : ℕ) (L : Trace) → slice_get Ls i ≡ Some L → (s n : ℕ) (q : Request) → slice_get (requests_of L s) n ≡ Some q → IsTold shape q
  request_told i L there s n q at =
      let fits = each-at (λ (M : Trace). All EventFits M.events) Ls i L
      (all_made_fit order shape scenario.clients Ls w (recursion_from_All PlanFits scenario.clients numbers.plans)) there in
      let made = made_checked (identity_of shape L) L.first (reverse L.events) (proper_of i L there).events
      (each-reverse EventFits L.events (recursion_from_All EventFits L.events fits)) in
      let checked = each-at (Asks (IsChecked shape)) (requests_of L s) n q (asked-have (IsChecked shape) L.client L.interest (reverse L.events) s made) at in
      let all = messages r H Ls i L s (limits_of scenario good) has_numbers g.legal g.fits there in
      asked_told shape q checked (each-at IsRequest (requests_of L s) n q (recursion_from_All IsRequest (requests_of L s) all) at)

  entry_told : (e : Entry) (h : List Entry) → IsEarlier (e ∷ h) H → IsTold shape e.request
  entry_told e h b =
      elim (cases_Bool (is_end e.request)) [
        | inl x ↦ end_told shape e.request x
        | inr x ↦
            (let owned : is_owned Ls e ≡ true = entry-at (λ (d : Entry). is_owned Ls d ≡ true) e h H b (recursion_from_All (λ (d : Entry). is_owned Ls d ≡ true) H g.fits.owned) in
            elim (or_cases (is_end e.request) (list_any (λ (L : Trace). has_session L e.session) Ls) owned) [
              | inl y ↦ end_told shape e.request y
              | inr y ↦
                  (let o = owner Ls e.session y in
                  let n = length (requests_in h e.session) in
                  let there = ((one_of o.place o.trace o.there).sessions e.session o.has).asked n e.request (request-there e h H e.session b (of-from e e.session refl x)) in
                  request_told o.place o.trace o.there e.session n e.request there)
            ])
      ]

  entry_session : (e : Entry) (h : List Entry) → IsEarlier (e ∷ h) H → e.session < session_count scenario
  entry_session e h b =
      entry-at (λ (d : Entry). d.session < session_count scenario) e h H b (recursion_from_All (λ (d : Entry). d.session < session_count scenario) H g.sessions)

  entry_once : (e : Entry) (h : List Entry) → IsEarlier (e ∷ h) H → is_end e.request ≡ true → is_ended h e.session ≡ false
  entry_once e h b t =
      let one = g.ended e.session (entry_session e h b) in
      let within = ends_more e.session (e ∷ h) H b in
      let plus = one_end e h t in
      let none : ends_in h e.session ≡ 0 = omega (arith, one, within, plus) in
      not_ended h e.session none

  are_entries : (h : List Entry) → IsEarlier h H → AreEntries scenario h
  are_entries [] b = tt
  are_entries (e ∷ h) b = (
    record {
      session = entry_session e h b;
      told = entry_told e h b;
      once = entry_once e h b;
      reply = (earlier-legal r (e ∷ h) H b g.legal).0;
    },
    are_entries h (earlier-rest h e H b),
  )

  -- All entries of a consistent journal are right.
  pub entries_right : AreEntries scenario H
  entries_right = are_entries H same

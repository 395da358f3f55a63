-- A sound run over a witnessing server: whatever is asked and replied in it is a message, no client refuses its next reply, and what is agreed is
-- the serial execution.
use Rattle.std.proofs.Common.{◌≡◌, ℕ, suc, ◌-◌, ◌<◌, ◌≤◌, Bool, true, false, inl, inr, List, [], ◌∷◌, map, length, reverse, Option, Some, None, slice_get, ℤ, pos, negsuc, refl, sym, ap, subst, arith, ltb, ltb-true, filter}
use Rattle.std.specs.Prelude.{All, int_lt, ◌+ℤ◌, if◌then◌else◌}
use Rattle.std.specs.List.{list_any, AllByRecursion}
use Rattle.std.proofs.lemmas.Bool.{cases_Bool, cond_both}
use Rattle.std.proofs.lemmas.List.Elements.{recursion_from_All, All-from_recursion}
use Rattle.sv_world.specs.declared.world.Shape.{Shape}
use Rattle.sv_wire.specs.declared.message.Done1.{Done1}
use Rattle.sv_wire.specs.declared.message.Request.{Request}
use Rattle.sv_wire.specs.declared.message.Request.TheVariants as requests
use Rattle.sv_wire.specs.declared.message.Reply.{Reply}
use Rattle.sv_wire.specs.Laws.{IsRequest, IsReply}
use Rattle.sv_wire.specs.Ranges.{ValueFits, ResultFits, ActionFits, RequestFits}
use Rattle.sv_journal.specs.declared.entry.Entry.{Entry}
use Rattle.sv_journal.specs.History.{Authored, accepted, actions_of, full_reply}
use Rattle.sv_journal.specs.Sessions.{is_end}
use Rattle.sv_journal.specs.Answer.{Rules}
use Rattle.sv_journal.specs.Laws.{ServedRelaysNameAccepted}
use Rattle.sv_client.specs.declared.trace.Event.{Event}
use Rattle.sv_client.specs.declared.trace.Trace.{Trace}
use Rattle.sv_client.specs.Traces.{current_session, asked, got, held_of}
use Rattle.sv_client.specs.Taking.{Identity, first_fault_of_reply}
use Rattle.sv_scenario.specs.declared.scenario.Scenario.{Scenario}
use Rattle.sv_world.specs.Limits.{most_positions}
use Rattle.sv_scenario.specs.Limits.{IsGoodScenario}
use Rattle.sv_scenario.specs.Sessions.{session_count}
use Rattle.sv_journal.proofs.Spent.{served-few}
use Rattle.law_system.specs.Fits.{is_join_of, requests_in, replies_in}
use Rattle.law_system.specs.Served.{no_client, FitsBut, OwnsSessions, FitsButValues}
use Rattle.law_system.specs.Serial.{AreSerial}
use Rattle.law_system.specs.Journals.{ResultsAreSerial}
use Rattle.law_system.proofs.Histories.{IsEarlier, same, after, earlier-rest}
use Rattle.law_system.proofs.Entered.{is_of, of-from}
use Rattle.law_system.proofs.Induction.{whole-well}
use Rattle.law_system.proofs.NextReply.{served-no_fault}
use Rattle.law_system.proofs.Within.{scenario-keeps}
use Rattle.law_asked.specs.Asked.{EventFits, CountsFit, HasNumbers, ServedRequestsFit, ServedRepliesFit}
use Rattle.law_asked.specs.Numbers.{ScenarioFits}
use Rattle.law_system.proofs.Every.{each-at, each-map, each-more, each-reverse}
use Rattle.law_system.proofs.Limits.{limits_of, objects_few}
use Rattle.law_system.proofs.Places.{map_at}
use Rattle.law_asked.proofs.Evaluated.{IsNumber}
use Rattle.law_asked.proofs.Counts.{proper-counts}
use Rattle.law_asked.proofs.Made.{Makes, Asks, asked-have}
use Rattle.law_asked.proofs.Owned.{entry-at, SubmitHas, submit-asked, end-submits, end-fits, event-makes, accepted-have}
use Rattle.sv_script.proofs.Asked.{asked-few}
use Rattle.law_schedule.specs.Players.{Player, trace_of_player}
use Rattle.law_schedule.specs.Serving.{Run, Server, run_served, traces_of}
use Rattle.law_schedule.specs.Schedule.{rules_of}
use Rattle.law_schedule.specs.Served.{IsHeard, AreHeard, KeepsSound, FitsServer, IsSoundOver}
use Rattle.law_schedule.specs.Done.{NextRepliesAreTaken}
use Rattle.law_system.specs.Records.{ScriptsAreDone, ends_in}
use Rattle.law_system.proofs.Asked.{any-turned}
use Rattle.law_schedule.specs.Sound.{has_joined}
use Rattle.law_schedule.proofs.DoneFacts.{same-who, same-events}
use Rattle.law_schedule.proofs.SoundCalls.{player-at}
use Rattle.law_schedule.proofs.SoundLaws.{run-sound}
use Rattle.law_schedule.proofs.SoundOwned.{session-owned}
use Rattle.sv_replay.specs.Players.{asked_by_player}
use Rattle.sv_replay.specs.Messages.{AsksMessages}
use Rattle.sv_replay.specs.Playable.{MadeActionsFit}
use Rattle.sv_replay.proofs.Lengths.{owner_of}
use Rattle.sv_witness.specs.Lies.{greatest_int, lied, lied_result, lied_value}
use Rattle.sv_witness.specs.Reports.{agreed_history}
use Rattle.sv_witness.specs.Witnessed.{agreed, IsWitnessed}
use Rattle.sv_witness.specs.Run.{witness_of, witnessed_run, liar_of, IsWitnessedRun}
use Rattle.sv_witness.specs.Disputes.{disputes_of}
use Rattle.sv_witness.specs.Tolerance.{IsTolerated}
use Rattle.sv_witness.specs.Lying.{WitnessesArePlayable, RunsAreWitnessed}
use Rattle.sv_witness.proofs.Same.{agreed-keeping}
use Rattle.sv_witness.proofs.Tolerated.{results-tolerated, tolerated}
use Rattle.sv_witness.proofs.Calm.{none-disputed}
use Rattle.sv_witness.proofs.Heard.{heard-by, heard-joins, witness-served, witness-keeps, witness-fits, is_other, witness-but}

-- ---- A lie has numbers of their types

raised-fits : (n : ℤ) → IsNumber n → (b : Bool) → int_lt n greatest_int ≡ b → IsNumber (if b then n +ℤ pos 1 else n)
raised-fits n f false e = f
raised-fits (pos n) f true e = record { sfits = omega (arith, ltb-true n 9223372036854775807 e) }
raised-fits (negsuc n) f true e =
    cond_both (ltb 1 (suc n)) (negsuc (suc n - 2)) (pos (1 - suc n)) IsNumber
    (λ more. record { sfits = omega (arith, ltb-true 1 (suc n) more, f.sfits) }) (λ none. record { sfits = omega arith })

value-fits : (v : List ℤ) → ValueFits v → ValueFits (lied_value v)
value-fits [] all = tt
value-fits (n ∷ ns) all = (raised-fits n all.0 (int_lt n greatest_int) refl, all.1)

values-fit : (vs : List (List ℤ)) → AllByRecursion ValueFits vs → AllByRecursion ValueFits (map lied_value vs)
values-fit [] all = tt
values-fit (v ∷ vs) all = (value-fits v all.0, values-fit vs all.1)

results-fit : (ds : List Done1) → AllByRecursion ResultFits ds → AllByRecursion ResultFits (map lied_result ds)
results-fit [] all = tt
results-fit (d ∷ ds) all = ((all.0.0, values-fit d.values all.0.1), results-fit ds all.1)

lied-fits : (q : Request) → RequestFits q → RequestFits (lied q)
lied-fits (requests.Join client life interest) f = f
lied-fits (requests.Submit seq a) f = f
lied-fits (requests.Done results) f = results-fit results f
lied-fits requests.Poll f = tt
lied-fits (requests.Observe objects wait) f = f
lied-fits requests.Leave f = tt
lied-fits requests.Bad f = tt
lied-fits requests.End f = tt

-- ---- Submits

submit-lied : (q : Request) → SubmitHas ActionFits q → SubmitHas ActionFits (lied q)
submit-lied (requests.Submit n a) h = h
submit-lied (requests.Join client life interest) h = tt
submit-lied (requests.Done results) h = tt
submit-lied requests.Poll h = tt
submit-lied (requests.Observe objects wait) h = tt
submit-lied requests.Leave h = tt
submit-lied requests.Bad h = tt
submit-lied requests.End h = tt

-- ---- How an entry was heard

heard-at : (server : Server) (e : Entry) (g H : List Entry) (s : ℕ) (asks : List Request) → IsEarlier (e ∷ g) H → AreHeard server H s asks → is_of e s ≡ true → IsHeard server e g s asks
heard-at server e g whole s asks same a t = a.0 t
heard-at server e g whole s asks (after {g = j} d b) a t = heard-at server e g j s asks b a.1 t

-- ---- A run

module _ (scenario : Scenario) (liar : Option ℕ) (run : Run) (good : IsGoodScenario scenario) (sound : IsSoundOver (witness_of (rules_of scenario) liar) scenario run) where
  abbrev r : Rules
  r = rules_of scenario

  abbrev shape : Shape
  shape = scenario.world.shape

  abbrev server : Server
  server = witness_of r liar

  abbrev H : List Entry
  H = run.history

  legal : IsWitnessed r H
  legal = witness-served r liar H sound.served

  but : FitsBut (liar_of liar) shape H (filter (is_other (liar_of liar)) (traces_of run))
  but = witness-but scenario liar run good sound

  serial : ResultsAreSerial r.world.values (actions_of H) (agreed_history H)
  serial = results-tolerated (liar_of liar) r H (filter (is_other (liar_of liar)) (traces_of run)) good.world.objects legal but

  -- ---- It is as it is said to be

  honest : IsTolerated (liar_of liar) r H (filter (is_other (liar_of liar)) (traces_of run))
  honest = tolerated (liar_of liar) r H (filter (is_other (liar_of liar)) (traces_of run)) good.world.objects legal but

  calm-where_none : liar ≡ None → disputes_of H ≡ []
  calm-where_none none =
      none-disputed r H (filter (is_other no_client) (traces_of run)) good.world.objects (omega arith) legal
      (subst (λ (n : ℕ). FitsBut n shape H (filter (is_other n) (traces_of run))) (ap liar_of none) but)

  pub as-said : run ≡ witnessed_run scenario liar → ((s : ℕ) → s < session_count scenario → ends_in H s ≡ 1) → ScriptsAreDone shape scenario.clients (traces_of run) →
      IsWitnessedRun scenario liar H (traces_of run)
  as-said is ended scripts = record {
    journal = ap (λ (x : Run). x.history) is;
    traces = ap traces_of is;
    legal = legal;
    world = honest.world;
    disputes = honest.disputes;
    calm = calm-where_none;
    ended = ended;
    scripts = scripts;
  }

  -- ---- No client refuses its next reply

  server-fits : (k : ℕ) (p : Player) → slice_get run.players k ≡ Some p → FitsServer server shape H (trace_of_player p)
  server-fits k p at =
      each-at (FitsServer server shape H) (traces_of run) k (trace_of_player p) (recursion_from_All (FitsServer server shape H) (traces_of run) sound.fits)
      (map_at trace_of_player run.players k p at)

  trace-fits : (k : ℕ) (p : Player) → slice_get run.players k ≡ Some p → FitsButValues shape H (trace_of_player p)
  trace-fits k p at = witness-fits r liar shape H (trace_of_player p) (server-fits k p at)

  trace-owns : (k : ℕ) (p : Player) → slice_get run.players k ≡ Some p → OwnsSessions H (trace_of_player p)
  trace-owns k p at s c = any-turned (is_join_of s) p.events (session-owned server (heard-joins r liar) scenario run good sound k p at s c)

  room : length (accepted H) < most_positions
  room = (let most = served-few agreed r H (session_count scenario) 1024 agreed-keeping refl legal sound.sessions in omega (arith, most, good.sessions))

  pub taken : (k : ℕ) (p : Player) (s : ℕ) (reply : Reply) → slice_get run.players k ≡ Some p → current_session p.events ≡ Some s →
      slice_get (replies_in (accepted H) H s) (length (got p.events s)) ≡ Some reply → first_fault_of_reply p.who p.events reply ≡ None
  taken k p s reply at current waits =
      let L = trace_of_player p in
      let a = player-at server scenario run good sound k p at in
      let most = asked-few p.who p.first a.plan.steps p.events a.playing.before s a.good.few_steps a.fitting.proper a.playing.follows current in
      let few : length (asked p.who.client p.who.interest p.events s) ≤ 1024 = omega (arith, most) in
      let back = sym (same-events p) in
      subst (λ (t : List Event). first_fault_of_reply p.who t reply ≡ None) (same-events p)
      (subst (λ (w : Identity). first_fault_of_reply w (reverse L.events) reply ≡ None) (same-who shape p (ap (λ (w : Identity). w.shape) a.playing.who))
      (served-no_fault agreed r H L (record { keeps = agreed-keeping; legal = legal; fits = trace-fits k p at }) (trace-owns k p at) s reply good.world.objects
      good.world.attrs good.bound (omega arith) room serial
      (subst (λ (t : List Event). current_session t ≡ Some s) back current)
      (scenario-keeps scenario.world scenario.bound scenario.reach (session_count scenario) shape H L s (server-fits k p at).proper
      (subst (λ (t : List Event). length (asked p.who.client p.who.interest t s) ≤ 1024) back few))
      (subst (λ (t : List Event). slice_get (replies_in (accepted H) H s) (length (got t s)) ≡ Some reply) back waits)))

  -- ---- What is asked is a message

  -- A player asked it, and the server heard it.
  abbrev IsOfPlayer : Entry → List Entry → Type 0
  IsOfPlayer e g = (k : ℕ) × ((p : Player) × ((slice_get run.players k ≡ Some p) × IsHeard server e g e.session (asked_by_player p e.session)))

  of-player : (e : Entry) (g : List Entry) → IsEarlier (e ∷ g) H → is_end e.request ≡ false → IsOfPlayer e g
  of-player e g b on =
      let begun = entry-at (λ (d : Entry). list_any (λ (p : Player). has_joined p d.session) run.players ≡ true) e g H b
      (recursion_from_All (λ (d : Entry). list_any (λ (p : Player). has_joined p d.session) run.players ≡ true) H sound.begun) in
      let o = owner_of run.players e.session begun in
      let a = player-at server scenario run good sound o.0 o.1.0 o.1.1.0 in
      (o.0, (o.1.0, (o.1.1.0, heard-at server e g H e.session (asked_by_player o.1.0 e.session) b (a.fitting.sessions e.session o.1.1.1).heard (of-from e e.session refl on))))

  module _ (scripts : MadeActionsFit) (numbers : ScenarioFits scenario) where
    made-at : (k : ℕ) (p : Player) → slice_get run.players k ≡ Some p → All EventFits (trace_of_player p).events
    made-at k p at =
        each-at (λ (L : Trace). All EventFits L.events) (traces_of run) k (trace_of_player p)
        (recursion_from_All (λ (L : Trace). All EventFits L.events) (traces_of run) (scripts server scenario run numbers sound))
        (map_at trace_of_player run.players k p at)

    makes-at : (k : ℕ) (p : Player) → slice_get run.players k ≡ Some p → AllByRecursion (Makes ActionFits) p.events
    makes-at k p at =
        let turned = each-reverse EventFits (reverse p.events) (recursion_from_All EventFits (reverse p.events) (made-at k p at)) in
        each-more EventFits (Makes ActionFits) event-makes p.events (subst (AllByRecursion EventFits) (same-events p) turned)

    submit-fits : (e : Entry) (g : List Entry) → IsEarlier (e ∷ g) H → SubmitHas ActionFits e.request
    submit-fits e g b = elim (cases_Bool (is_end e.request)) [
      | inl y ↦ end-submits ActionFits e.request y
      | inr n ↦
          (let o = of-player e g b n in
          let p = o.1.0 in
          let one = o.1.1.1 in
          let asks = each-at (Asks ActionFits) (asked_by_player p e.session) (length (requests_in g e.session)) one.request
          (asked-have ActionFits p.who.client p.who.interest p.events e.session (makes-at o.0 p o.1.1.0)) one.next in
          let has = submit-asked ActionFits one.request asks in
          subst (SubmitHas ActionFits) (sym one.heard) (heard-by (SubmitHas ActionFits) liar g e.session one.request has (submit-lied one.request has)))
    ]

    actions-fit : All ActionFits (actions_of H)
    actions-fit = All-from_recursion ActionFits (actions_of H) (each-map (λ (a : Authored). a.action) ActionFits (accepted H) (accepted-have H submit-fits H same))

    has-numbers : (k : ℕ) (p : Player) → slice_get run.players k ≡ Some p → HasNumbers r H (trace_of_player p ∷ [])
    has-numbers k p at = record {
      objects = objects_few scenario good;
      opening = numbers.values;
      made = All-from_recursion (λ (M : Trace). All EventFits M.events) (trace_of_player p ∷ []) (made-at k p at, tt);
      counts = All-from_recursion CountsFit (trace_of_player p ∷ []) (proper-counts shape (trace_of_player p) (server-fits k p at).proper, tt);
      positions = (let most = served-few agreed r H (session_count scenario) 1024 agreed-keeping refl legal sound.sessions in omega (arith, most, good.sessions));
    }

    module _ (asked-fit : ServedRequestsFit) where
      pub asks : (k : ℕ) (p : Player) → slice_get run.players k ≡ Some p → AsksMessages p
      asks k p at s =
          let L = trace_of_player p in
          let held : AreSerial r.world.values (actions_of H) (held_of (reverse L.events)) =
          (whole-well agreed agreed-keeping r H good.world.objects legal serial L (trace-fits k p at)).serial in
          let all = asked-fit agreed r H L s agreed-keeping (limits_of scenario good) (has-numbers k p at) actions-fit legal (trace-fits k p at) held in
          subst (λ (t : List Event). All IsRequest (asked p.who.client p.who.interest t s)) (same-events p) all

      -- ---- What is replied is a message

      entry-fits : (e : Entry) (g : List Entry) → IsEarlier (e ∷ g) H → RequestFits e.request
      entry-fits e g b = elim (cases_Bool (is_end e.request)) [
        | inl y ↦ end-fits e.request y
        | inr n ↦
            (let o = of-player e g b n in
            let p = o.1.0 in
            let one = o.1.1.1 in
            let message = each-at IsRequest (asked_by_player p e.session) (length (requests_in g e.session)) one.request
            (recursion_from_All IsRequest (asked_by_player p e.session) (asks o.0 p o.1.1.0 e.session)) one.next in
            subst RequestFits (sym one.heard) (heard-by RequestFits liar g e.session one.request message.fits (lied-fits one.request message.fits)))
      ]

      entries-fit : (g : List Entry) → IsEarlier g H → AllByRecursion (λ (e : Entry). RequestFits e.request) g
      entries-fit [] b = tt
      entries-fit (e ∷ g) b = (entry-fits e g b, entries-fit g (earlier-rest g e H b))

      pub replied : ServedRepliesFit → All (λ (e : Entry). IsReply (full_reply (accepted H) e.reply)) H
      replied law =
          law agreed r H agreed-keeping (limits_of scenario good) (omega arith) (objects_few scenario good) numbers.values
          (All-from_recursion (λ (e : Entry). RequestFits e.request) H (entries-fit H same)) legal

-- ---- Runs

pub runs-playable : MadeActionsFit → ServedRelaysNameAccepted → ServedRequestsFit → ServedRepliesFit → WitnessesArePlayable
runs-playable scripts names asked-fit replies scenario liar good numbers = record {
  keeps = witness-keeps names (rules_of scenario) liar;
  asked = λ run k p sound at. asks scenario liar run good sound scripts numbers asked-fit k p at;
  replied = λ run sound. replied scenario liar run good sound scripts numbers asked-fit replies;
  taken = λ run k p s reply sound at current waits. taken scenario liar run good sound k p s reply at current waits;
}

-- No client refuses its next reply.
all-taken : (scenario : Scenario) (liar : Option ℕ) → IsGoodScenario scenario → NextRepliesAreTaken (witness_of (rules_of scenario) liar) scenario
all-taken scenario liar good run k p s reply sound at current waits = taken scenario liar run good sound k p s reply at current waits

abbrev EndsServed : Type 0
EndsServed = (server : Server) (scenario : Scenario) → KeepsSound server → NextRepliesAreTaken server scenario → IsGoodScenario scenario →
    (s : ℕ) → s < session_count scenario → ends_in (run_served server scenario).history s ≡ 1

abbrev DoesScripts : Type 0
DoesScripts = (server : Server) (scenario : Scenario) → KeepsSound server → NextRepliesAreTaken server scenario → IsGoodScenario scenario →
    ScriptsAreDone scenario.world.shape scenario.clients (traces_of (run_served server scenario))

pub runs-witnessed : ServedRelaysNameAccepted → EndsServed → DoesScripts → RunsAreWitnessed
runs-witnessed names ends scripts scenario liar good =
    let server = witness_of (rules_of scenario) liar in
    let keeps = witness-keeps names (rules_of scenario) liar in
    let honest = all-taken scenario liar good in
    as-said scenario liar (witnessed_run scenario liar) good (run-sound server keeps scenario good) refl (ends server scenario keeps honest good)
    (scripts server scenario keeps honest good)

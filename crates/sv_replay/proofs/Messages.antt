-- A scenario can be run over the server that answers by the table: whatever is asked and replied in a sound run is a message, and no client refuses its
-- next reply.
use Rattle.std.proofs.Common.{◌≡◌, ℕ, true, inl, inr, List, [], ◌∷◌, length, Some, None, slice_get, refl, subst, arith}
use Rattle.std.specs.Prelude.{All}
use Rattle.std.specs.List.{list_any, AllByRecursion}
use Rattle.std.proofs.lemmas.Bool.{cases_Bool}
use Rattle.std.proofs.lemmas.List.{reverse-reverse}
use Rattle.std.proofs.lemmas.List.Elements.{recursion_from_All, All-from_recursion}
use Rattle.sv_wire.specs.Laws.{IsRequest, IsReply}
use Rattle.sv_wire.specs.Ranges.{RequestFits}
use Rattle.sv_journal.specs.declared.entry.Entry.{Entry}
use Rattle.sv_journal.specs.History.{accepted, full_reply}
use Rattle.sv_journal.specs.Sessions.{is_end}
use Rattle.sv_journal.specs.Answer.{Rules}
use Rattle.sv_client.specs.declared.trace.Event.{Event}
use Rattle.sv_client.specs.declared.trace.Trace.{Trace}
use Rattle.sv_client.specs.Traces.{asked}
use Rattle.sv_scenario.specs.declared.scenario.Scenario.{Scenario}
use Rattle.sv_scenario.specs.Limits.{IsGoodScenario}
use Rattle.sv_scenario.specs.Sessions.{session_count}
use Rattle.law_asked.specs.Numbers.{PlanFits, ScenarioFits}
use Rattle.law_system.specs.Fits.{requests_in}
use Rattle.law_system.specs.Laws.{NeverRefusedInScenarios}
use Rattle.law_system.proofs.Histories.{IsEarlier, same, earlier-rest}
use Rattle.law_system.proofs.Entered.{of-from, request-there}
use Rattle.law_asked.specs.Asked.{EventFits, HasNumbers, RequestsAreMessages, RepliesAreMessages, AcceptedAreFew}
use Rattle.law_system.proofs.Every.{each-at}
use Rattle.law_system.proofs.Limits.{limits_of, objects_few}
use Rattle.law_system.proofs.Places.{map_at}
use Rattle.law_asked.proofs.Counts.{counts-each}
use Rattle.law_asked.proofs.Owned.{entry-at, end-fits}
use Rattle.law_schedule.specs.Players.{Player, trace_of_player}
use Rattle.law_schedule.specs.Serving.{Run, Server, traces_of}
use Rattle.law_schedule.specs.Schedule.{rules_of, plain_server}
use Rattle.law_schedule.specs.Sound.{IsSound, has_joined}
use Rattle.law_schedule.specs.Served.{IsSoundOver}
use Rattle.law_schedule.proofs.SoundPlain.{plain-keeps, sound-plain}
use Rattle.law_schedule.proofs.DonePlain.{plain-taken, player-front}
use Rattle.sv_replay.specs.Players.{asked_by_player}
use Rattle.sv_replay.specs.Messages.{AsksMessages}
use Rattle.sv_replay.specs.Playable.{IsPlayable}
use Rattle.sv_replay.proofs.Scripts.{players_made}
use Rattle.sv_replay.proofs.Lengths.{owner_of}

-- ---- A run

module _ (scenario : Scenario) (run : Run) (good : IsGoodScenario scenario) (numbers : ScenarioFits scenario) (sound : IsSound scenario run) where
  abbrev r : Rules
  r = rules_of scenario

  abbrev H : List Entry
  H = run.history

  has_numbers : AcceptedAreFew → HasNumbers r H (traces_of run)
  has_numbers few = record {
    objects = objects_few scenario good;
    opening = numbers.values;
    made = All-from_recursion (λ (L : Trace). All EventFits L.events) (traces_of run)
        (players_made scenario.world.shape 0 0 scenario.clients run.players (recursion_from_All PlanFits scenario.clients numbers.plans) sound.players);
    counts = counts-each scenario.world.shape (traces_of run) sound.proper;
    positions = (let most = few r H (session_count scenario) 1024 refl sound.legal sound.sessions in omega (arith, most, good.sessions));
  }

  asks : RequestsAreMessages → AcceptedAreFew → (k : ℕ) (p : Player) → slice_get run.players k ≡ Some p → AsksMessages p
  asks law few k p at s =
      let all = law r H (traces_of run) k (trace_of_player p) s (limits_of scenario good) (has_numbers few) sound.legal sound.fits (map_at trace_of_player run.players k p at) in
      subst (λ (t : List Event). All IsRequest (asked p.who.client p.who.interest t s)) (reverse-reverse p.events) all

  module _ (law : RequestsAreMessages) (few : AcceptedAreFew) where
    entry_fits : (e : Entry) (g : List Entry) → IsEarlier (e ∷ g) H → RequestFits e.request
    entry_fits e g b =
        elim (cases_Bool (is_end e.request)) [
          | inl y ↦ end-fits e.request y
          | inr n ↦
              (let begun = entry-at (λ (d : Entry). list_any (λ (p : Player). has_joined p d.session) run.players ≡ true) e g H b (recursion_from_All _ H sound.begun) in
              let o = owner_of run.players e.session begun in
              let there = player-front scenario run sound o.0 o.1.0 o.1.1.0 e.session o.1.1.1 (length (requests_in g e.session)) e.request (request-there e g H e.session b (of-from e e.session refl n)) in
              let messages = recursion_from_All IsRequest (asked_by_player o.1.0 e.session) (asks law few o.0 o.1.0 o.1.1.0 e.session) in
              (each-at IsRequest (asked_by_player o.1.0 e.session) (length (requests_in g e.session)) e.request messages there).fits)
        ]

    entries_fit : (g : List Entry) → IsEarlier g H → AllByRecursion (λ (e : Entry). RequestFits e.request) g
    entries_fit [] b = tt
    entries_fit (e ∷ g) b = (entry_fits e g b, entries_fit g (earlier-rest g e H b))

-- ---- The server that answers by the table

module _ (law : RequestsAreMessages) (few : AcceptedAreFew) (replied : RepliesAreMessages) (honest : NeverRefusedInScenarios) (scenario : Scenario) (good : IsGoodScenario scenario) (numbers : ScenarioFits scenario) where
  abbrev plain : Server
  plain = plain_server (rules_of scenario)

  plain_replied : (run : Run) → IsSoundOver plain scenario run → All (λ (e : Entry). IsReply (full_reply (accepted run.history) e.reply)) run.history
  plain_replied run over =
      let sound = sound-plain scenario run over in
      let asked = All-from_recursion (λ (e : Entry). RequestFits e.request) run.history (entries_fit scenario run good numbers sound law few run.history same) in
      replied (rules_of scenario) run.history (limits_of scenario good) (omega arith) (objects_few scenario good) numbers.values asked sound.legal

  pub plain_playable : IsPlayable scenario plain
  plain_playable = record {
    keeps = plain-keeps (rules_of scenario);
    asked = λ run k p over at. asks scenario run good numbers (sound-plain scenario run over) law few k p at;
    replied = plain_replied;
    taken = plain-taken honest scenario good;
  }

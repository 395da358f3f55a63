-- No client refuses a reply of the server that answers by the table.
use Rattle.std.proofs.Common.{◌≡◌, ℕ, ◌<◌, ◌≤◌, true, List, length, reverse, None, Some, slice_get, refl, sym, subst, arith}
use Rattle.std.specs.List.{list_any}
use Rattle.sv_journal.specs.History.{accepted}
use Rattle.sv_client.specs.declared.trace.Event.{Event}
use Rattle.sv_client.specs.Traces.{current_session, asked, got}
use Rattle.sv_client.specs.Taking.{Identity, first_fault_of_reply}
use Rattle.sv_client.specs.Proper.{Proper}
use Rattle.sv_scenario.specs.declared.scenario.Scenario.{Scenario}
use Rattle.sv_scenario.specs.Limits.{IsGoodScenario}
use Rattle.sv_scenario.specs.Sessions.{session_count}
use Rattle.law_system.specs.Fronts.{IsFront}
use Rattle.law_system.specs.Fits.{requests_in, replies_in, is_join_of, FitsOne}
use Rattle.law_system.proofs.Places.{map_at}
use Rattle.law_system.specs.Laws.{NeverRefusedInScenarios}
use Rattle.law_system.proofs.Every.{each-at}
use Rattle.std.proofs.lemmas.List.Elements.{recursion_from_All}
use Rattle.sv_journal.proofs.Spent.{accepted-few}
use Rattle.sv_script.proofs.Asked.{asked-few}
use Rattle.law_system.proofs.Asked.{any-turned}
use Rattle.law_schedule.specs.Players.{Player, trace_of_player}
use Rattle.law_schedule.specs.Serving.{Run, traces_of}
use Rattle.law_schedule.specs.Schedule.{rules_of, plain_server}
use Rattle.law_schedule.specs.Sound.{IsSound}
use Rattle.law_schedule.specs.Done.{NextRepliesAreTaken}
use Rattle.law_schedule.proofs.DoneFacts.{following, who-is, trace-at, same-events}
use Rattle.law_schedule.proofs.SoundPlain.{sound-plain}

pub plain-taken : NeverRefusedInScenarios → (scenario : Scenario) → IsGoodScenario scenario → NextRepliesAreTaken (plain_server (rules_of scenario)) scenario
plain-taken honest scenario good run i p s reply over at current next =
    let sound = sound-plain scenario run over in
    let f = following (plain_server (rules_of scenario)) scenario good run over i p at in
    let most = asked-few p.who p.first f.plan.steps p.events f.before s f.few f.proper f.follows current in
    let few : length (asked p.who.client p.who.interest p.events s) ≤ 1024 = omega (arith, most) in
    let L = trace_of_player p in
    let h = run.history in
    let back = sym (same-events p) in
    let there = trace-at (plain_server (rules_of scenario)) scenario good run over i p at in
    let proper = each-at (Proper scenario.world.shape) (traces_of run) i L (recursion_from_All (Proper scenario.world.shape) (traces_of run) sound.proper) there in
    let many = accepted-few (rules_of scenario) h (session_count scenario) 1024 refl sound.legal sound.sessions in
    let room : length (accepted h) < 4294967294 = omega (arith, many, good.sessions) in
    subst (λ (t : List Event). first_fault_of_reply p.who t reply ≡ None) (same-events p)
    (subst (λ (w : Identity). first_fault_of_reply w (reverse L.events) reply ≡ None) (who-is (plain_server (rules_of scenario)) scenario good run over i p at)
    (honest scenario.world scenario.bound scenario.reach (session_count scenario) h (traces_of run) i L s reply good.world.objects
    good.world.attrs good.bound room sound.legal sound.fits there proper
    (subst (λ (t : List Event). current_session t ≡ Some s) back current)
    (subst (λ (t : List Event). length (asked p.who.client p.who.interest t s) ≤ 1024) back few)
    (subst (λ (t : List Event). slice_get (replies_in (accepted h) h s) (length (got t s)) ≡ Some reply) back next)))

-- The journal's requests of a session are the first that its player asks.
pub player-front : (scenario : Scenario) (run : Run) → IsSound scenario run → (i : ℕ) (p : Player) → slice_get run.players i ≡ Some p → (s : ℕ) → list_any (is_join_of s) p.events ≡ true →
    IsFront (requests_in run.history s) (asked p.who.client p.who.interest p.events s)
player-front scenario run sound i p at s joined =
    let fit = each-at (FitsOne scenario.world.shape run.history) (traces_of run) i (trace_of_player p)
    (recursion_from_All (FitsOne scenario.world.shape run.history) (traces_of run) sound.fits.each) (map_at trace_of_player run.players i p at) in
    let one = fit.sessions s (any-turned (is_join_of s) p.events joined) in
    subst (λ (t : List Event). IsFront (requests_in run.history s) (asked p.who.client p.who.interest t s)) (same-events p) one.asked

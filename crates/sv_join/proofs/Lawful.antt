-- No reply of a legal server is refused.
use Rattle.std.proofs.Common.{◌≡◌, ℕ, ◌+◌, ◌≤◌, List, length, reverse, Some, None, option_map, slice_get, sym, ap, ◌∙◌, subst, arith}
use Rattle.std.specs.Prelude.{All}
use Rattle.std.specs.List.{AllByRecursion}
use Rattle.std.proofs.lemmas.List.Elements.{recursion_from_All}
use Rattle.sv_wire.specs.declared.message.Reply.{Reply}
use Rattle.sv_wire.specs.Ranges.{ValueFits}
use Rattle.sv_wire.specs.Laws.{IsReply}
use Rattle.sv_journal.specs.declared.entry.Entry.{Entry}
use Rattle.sv_journal.specs.History.{accepted, full_reply}
use Rattle.sv_client.specs.declared.trace.Event.{Event}
use Rattle.sv_client.specs.declared.trace.Trace.{Trace}
use Rattle.sv_client.specs.Seen.{raised}
use Rattle.sv_client.specs.Traces.{current_session, requests_of, got, asked}
use Rattle.sv_client.specs.Taking.{Identity, first_fault_of_reply}
use Rattle.sv_client.specs.Proper.{Proper, AreProper, identity_of}
use Rattle.sv_client.proofs.Backwards.{map_reverse}
use Rattle.sv_client.proofs.Shifts.{Up, up_current, up_got, up_asked, up_fault, up_proper}
use Rattle.sv_scenario.specs.declared.scenario.Scenario.{Scenario}
use Rattle.sv_scenario.specs.declared.scenario.Step.{Step}
use Rattle.sv_scenario.specs.Limits.{IsGoodScenario}
use Rattle.sv_scenario.specs.Sessions.{session_count}
use Rattle.sv_script.specs.Following.{Follows}
use Rattle.law_system.specs.Fits.{replies_in}
use Rattle.law_system.specs.Records.{rules_of}
use Rattle.law_asked.specs.Asked.{RepliesAreMessages}
use Rattle.sv_player.specs.Carried.{BeginsWithReplies}
use Rattle.sv_player.specs.Stops.{IsBadRest}
use Rattle.sv_player.specs.Played.{IsOpenSession, replies_of}
use Rattle.sv_player.specs.declared.outcome.ReplyFault.{ReplyFault}
use Rattle.law_traffic.proofs.Messages.{AreGot, got_first}
use Rattle.law_system.specs.Laws.{NeverRefusedInScenarios}
use Rattle.sv_door.specs.Doors.{Passage}
use Rattle.sv_script.proofs.Asked.{few-asked}
use Rattle.law_system.proofs.Limits.{limits_of, objects_few}
use Rattle.law_traffic.proofs.Sendable.{sendable_in}
use Rattle.law_traffic.proofs.Takeable.{takeable_by, not_bad}
use Rattle.sv_join.specs.Legal.{numbered_from, IsLegalServer}

-- ---- The law

module _ (law : NeverRefusedInScenarios) (messages : RepliesAreMessages) (scenario : Scenario) (good : IsGoodScenario scenario) (opening : All ValueFits scenario.world.values)
    (L : Trace) (script : List Step) (few : length script ≤ 256) (proper : Proper scenario.world.shape L) (first_is : L.first ≡ 0) (follows : Follows scenario.world.shape script L) (passages : List Passage)
    (server : IsLegalServer scenario L passages) (s : ℕ) (p : Passage) (there : slice_get passages s ≡ Some p) (session : IsOpenSession L s)
    (rest : List ℕ) (begins : BeginsWithReplies p.received (replies_of L s) rest) where
  abbrev own : Identity
  own = identity_of scenario.world.shape L

  abbrev done : List Event
  done = reverse L.events

  abbrev all : List Reply
  all = replies_in (accepted server.journal) server.journal (s + server.first)

  up : reverse (numbered_from server.first L).events ≡ Up server.first done
  up = sym (map_reverse (raised server.first) L.events)

  sendable : AllByRecursion IsReply all
  sendable =
      sendable_in (accepted server.journal) server.journal (s + server.first)
      (recursion_from_All (λ (e : Entry). IsReply (full_reply (accepted server.journal) e.reply)) server.journal
      (messages (rules_of scenario) server.journal (limits_of scenario good) (omega arith) (objects_few scenario good) opening server.requests server.legal))

  g : AreGot all p.received (replies_of L s) rest
  g = got_first all p.received (replies_of L s) rest sendable (server.received s p there) begins

  few_here : length (requests_of (numbered_from server.first L) (s + server.first)) ≤ 1024
  few_here =
      let count = few-asked own L.first script done follows.left s few proper.events follows.follows in
      let same = ap (λ (l : List Event). length (asked L.client L.interest l (s + server.first))) up ∙ ap length (up_asked server.first own done s) in
      omega (arith, count, same)

  proper_up : Proper scenario.world.shape (numbered_from server.first L)
  proper_up = record {
    who = proper.who;
    events = subst (AreProper own server.first) (sym up) (up_proper server.first own done (subst (λ n. AreProper own n done) first_is proper.events));
  }

  current : current_session (reverse (numbered_from server.first L).events) ≡ Some (s + server.first)
  current = ap current_session up ∙ (up_current server.first done ∙ ap (option_map (λ n. n + server.first)) session.current)

  taken : (reply : Reply) → slice_get all (length (replies_of L s)) ≡ Some reply → first_fault_of_reply own done reply ≡ None
  taken reply is =
      let limits = limits_of scenario good in
      let count : length (got (reverse (numbered_from server.first L).events) (s + server.first)) ≡ length (replies_of L s) =
      ap (λ (l : List Event). length (got l (s + server.first))) up ∙ ap length (up_got server.first done s) in
      let none = law scenario.world scenario.bound scenario.reach (session_count scenario) server.journal server.traces server.place (numbered_from server.first L) (s + server.first) reply limits.objects limits.attrs limits.bound server.room server.legal server.fits server.member proper_up current few_here (ap (slice_get all) count ∙ is) in
      sym (up_fault server.first own done reply) ∙ (ap (λ (l : List Event). first_fault_of_reply own l reply) (sym up) ∙ none)

  pub not_refused : (payload : List ℕ) (fault : ReplyFault) → IsBadRest own done rest payload fault → ⊥
  not_refused = not_bad scenario.world.shape L rest (takeable_by scenario.world.shape L all p.received (replies_of L s) rest sendable g taken)

-- One session that is done: its bytes against the journal and the trace.
use Rattle.std.proofs.Common.{◌≡◌, ◌≢◌, ◌⊎◌, ℕ, ◌+◌, ◌<◌, Bool, false, List, [], ◌∷◌, ◌++◌, length, map, reverse, inl, inr, refl, sym, ap, subst, ◌∙◌, append_assoc, arith, ◌≤◌, length-append}
use Rattle.std.specs.List.{AllByRecursion}
use Rattle.std.proofs.lemmas.Bool.{ltb-false}
use Rattle.std.proofs.lemmas.List.{length-map}
use Rattle.std.proofs.lemmas.List.Elements.{recursion_from_All}
use mathlib.Core.List.{IsPrefix}
use Rattle.sv_frame.specs.Streams.StreamItem.{Payload}
use Rattle.sv_link.specs.Nets.{counted}
use Rattle.sv_wire.specs.declared.message.Request.{Request}
use Rattle.sv_wire.specs.declared.message.Request.TheVariants as requests
use Rattle.sv_wire.specs.declared.message.Reply.{Reply}
use Rattle.sv_wire.specs.Spelling.{request_bytes}
use Rattle.sv_wire.specs.Laws.{IsRequest, IsReply}
use Rattle.sv_journal.specs.declared.entry.Entry.{Entry}
use Rattle.sv_journal.specs.declared.entry.Logged.TheVariants as logged
use Rattle.sv_journal.specs.History.{accepted}
use Rattle.sv_journal.specs.Laws.{FullRepliesStay, LegalRelaysNameAccepted}
use Rattle.sv_client.specs.declared.trace.Trace.{Trace}
use Rattle.sv_client.specs.Traces.{requests_of}
use Rattle.sv_journal.specs.History.{entry_of}
use Rattle.sv_lock.proofs.Histories.{prefix_trans}
use Rattle.sv_journal.specs.Sessions.{is_end}
use Rattle.sv_session.specs.Requests.{due_frames}
use Rattle.sv_session.specs.Serving.{ExplainsOut, ended_by}
use Rattle.sv_session.specs.declared.outcome.SessionOut.{SessionOut}
use Rattle.sv_session.specs.declared.outcome.SessionOut.TheVariants as outs
use Rattle.law_system.specs.Fronts.{IsFront}
use Rattle.law_system.specs.Fits.{requests_in, replies_in, FitsIn}
use Rattle.law_system.proofs.Fronts.{front-append}
use Rattle.sv_player.specs.Carried.{request_frames}
use Rattle.sv_player.specs.Stops.{is_cut}
use Rattle.sv_player.specs.Played.{replies_of}
use Rattle.sv_player.proofs.Linking.{frames_append}
use Rattle.law_system.specs.Records.{ends_in}
use Rattle.law_system.proofs.Every.{each-left}
use Rattle.law_traffic.specs.Sessions.{Over, transcript, IsSessionDone}
use Rattle.law_traffic.specs.Traffic.{reply_frames, EndsWithStop, CameWhole, IsTraffic}
use Rattle.law_traffic.proofs.Ours.{mine, end_is_last}
use Rattle.law_traffic.proofs.Dues.{full_over}
use Rattle.law_traffic.proofs.Loops.{stopped_by}
use Rattle.law_traffic.proofs.Loops as loops
use Rattle.law_traffic.proofs.Messages.{AreTaken, taken, AreGot, got_first}

-- ---- The session

module _ (stay : FullRepliesStay) (name : LegalRelaysNameAccepted) (journal : List Entry) (L : Trace) (s : ℕ) (x : Over) (d : IsSessionDone journal L s x) where
  abbrev pub answered : List Entry
  answered = d.served.served.answered

  abbrev history : List Entry
  history = reverse journal

  abbrev pub steps : List Request
  steps = map (λ (e : Entry). e.request) answered

  abbrev pub all : List Reply
  all = full_over journal answered

  pub just : mine s journal ≡ answered ++ entry_of s requests.End logged.Bye ∷ []
  just = loops.just journal s x.out x.server x.server_faults d.served

  pub others : AllByRecursion (λ (e : Entry). is_end e.request ≡ false) answered
  others = loops.others journal s x.out x.server x.server_faults d.served

  steps_are : requests_in history s ≡ steps
  steps_are = loops.steps_are journal s x.out x.server x.server_faults d.served

  pub all_are : replies_in (accepted history) history s ≡ all
  all_are = loops.all_are journal s x.out x.server x.server_faults d.served

  pub ends_are : ends_in history s ≡ 1
  ends_are = loops.ends_are journal s x.out x.server x.server_faults d.served

  pub messages : AllByRecursion IsRequest (requests_of L s)
  messages = recursion_from_All IsRequest (requests_of L s) d.carried.messages

  -- ---- Requests

  server_received : x.server.received ≡ d.served.served.received
  server_received = loops.received_is journal s x.out x.server x.server_faults d.served

  pub came : AreTaken (requests_of L s) d.served.served.received
  came =
      let p = d.settled.arrived.to_server.part in
      taken (requests_of L s) d.served.served.received messages (subst (λ (l : List ℕ). IsPrefix l (request_frames (requests_of L s))) server_received (p.0, p.1 ∙ d.carried.sent))

  steps_first : steps ++ d.served.served.requests.0 ≡ came.first
  steps_first = d.served.served.requests.1 ∙ came.came

  -- what was asked and not stepped
  abbrev pub later : List Request
  later = d.served.served.requests.0 ++ came.second

  pub steps_asked : steps ++ later ≡ requests_of L s
  steps_asked = sym (append_assoc steps d.served.served.requests.0 came.second) ∙ (ap (λ (l : List Request). l ++ came.second) steps_first ∙ sym came.are)

  -- each request of the journal is a message
  pub steps_messages : AllByRecursion IsRequest steps
  steps_messages = each-left IsRequest steps (d.served.served.requests.0 ++ came.second) (subst (AllByRecursion IsRequest) (sym steps_asked) messages)

  -- no more requests were stepped than asked
  pub steps_few : length answered ≤ length (requests_of L s)
  steps_few =
      let all = ap (λ (l : List Request). length l) steps_asked in
      let sum = length-append steps (d.served.served.requests.0 ++ came.second) in
      let same = length-map answered (λ (e : Entry). e.request) in
      omega (arith, all, sum, same)

  stepped : IsPrefix (request_frames steps) x.server.received
  stepped = (
    request_frames d.served.served.requests.0 ++ came.rest,
    sym (append_assoc (request_frames steps) (request_frames d.served.served.requests.0) came.rest)
        ∙ (ap (λ (l : List ℕ). l ++ came.rest) (sym (frames_append steps d.served.served.requests.0) ∙ ap request_frames steps_first)
        ∙ (sym came.whole ∙ sym server_received)),
  )

  -- ---- Replies

  sent_part : IsPrefix x.server.sent (reply_frames all)
  sent_part = loops.sent_part journal s x.out x.server x.server_faults d.served stay name

  pub sent_whole : x.out ≢ outs.LinkFault → x.server.sent ≡ reply_frames all
  sent_whole = loops.sent_whole journal s x.out x.server x.server_faults d.served stay name

  no_fault : x.server_faults ≡ 0 → x.out ≢ outs.LinkFault
  no_fault none failed = let rose : 0 < x.server_faults = d.served.cause.0 failed in omega (arith, rose, none)

  pub no_fault_open : is_cut (reverse L.events) s ≡ false → x.out ≢ outs.LinkFault
  no_fault_open open_is =
      let none : x.server_faults + x.client_faults ≡ 0 = sym (ap (λ (b : Bool). counted b x.server_faults x.client_faults) open_is) ∙ d.settled.faultless in
      no_fault (omega (arith, none))

  ending : (out : SessionOut) → out ≢ outs.LinkFault → out ≢ outs.Memory → ExplainsOut out d.served.served.received answered d.served.served.sent (due_frames d.served.after.seen answered) →
      EndsWithStop all ⊎ CameWhole (ended_by out false) d.served.served.received steps
  ending outs.Closed l m e =
      inr (record { ended_is = refl; items = came.items ∙ ap (λ (qs : List Request). map Payload (map request_bytes qs)) (sym came.came ∙ sym e.0.all) })
  ending outs.Left l m e = inl (stopped_by journal answered outs.Left e.0)
  ending outs.Ended l m e = inl (stopped_by journal answered outs.Ended e.0)
  ending outs.Malformed l m e = inl (stopped_by journal answered outs.Malformed e.0)
  ending outs.Spent l m e = inl (stopped_by journal answered outs.Spent e.0)
  ending outs.LinkFault l m e = absurd (l refl)
  ending outs.Memory l m e = absurd (m refl)

  pub how_ended : x.out ≢ outs.LinkFault → EndsWithStop all ⊎ CameWhole x.server.ended x.server.received steps
  how_ended faultless =
      subst (λ (l : List ℕ). EndsWithStop all ⊎ CameWhole x.server.ended l steps) (sym server_received)
      (subst (λ (b : Bool). EndsWithStop all ⊎ CameWhole b d.served.served.received steps) (sym (loops.ended_is journal s x.out x.server x.server_faults d.served)) (ending x.out faultless d.served.memory d.served.served.cause))

  pub received_part : IsPrefix x.client.received (reply_frames all)
  received_part = prefix_trans x.client.received x.server.sent (reply_frames all) d.settled.arrived.to_client.part sent_part

  module _ (sendable : AllByRecursion IsReply all) where
    pub got : AreGot all x.client.received (replies_of L s) d.carried.rest
    got =
        got_first all x.client.received (replies_of L s) d.carried.rest sendable received_part d.carried.received

    traffic : IsTraffic history L s (transcript x)
    traffic =
        record {
          asked = d.carried.sent;
          arrived = d.settled.arrived.to_server.part;
          stepped = subst (λ (qs : List Request). IsPrefix (request_frames qs) x.server.received) (sym steps_are) stepped;
          replied = subst (λ (ws : List Reply). IsPrefix x.server.sent (reply_frames ws)) (sym all_are) sent_part;
          whole = λ open_is. sent_whole (no_fault_open open_is) ∙ ap reply_frames (sym all_are);
          returned = d.settled.arrived.to_client.part;
          got = (d.carried.rest, sym got.whole);
          end = λ faultless. subst (λ (ws : List Reply). EndsWithStop ws ⊎ CameWhole x.server.ended x.server.received (requests_in history s)) (sym all_are)
              (subst (λ (qs : List Request). EndsWithStop all ⊎ CameWhole x.server.ended x.server.received qs) (sym steps_are)
              (how_ended (no_fault (let none = ltb-false 0 x.server_faults faultless in omega (arith, none)))));
        }

    fits_in : FitsIn history L s
    fits_in =
        record {
          got = subst (IsFront (replies_of L s)) (sym got.are ∙ sym all_are) (front-append (replies_of L s) got.more);
          asked = subst (λ (qs : List Request). IsFront qs (requests_of L s)) (sym steps_are)
              (subst (IsFront steps) steps_asked (front-append steps (d.served.served.requests.0 ++ came.second)));
          ended = end_is_last s journal answered just others;
        }

  pub traffic_of : AllByRecursion IsReply (replies_in (accepted history) history s) → IsTraffic history L s (transcript x)
  traffic_of sendable = traffic (subst (AllByRecursion IsReply) all_are sendable)

  pub fits_of : AllByRecursion IsReply (replies_in (accepted history) history s) → FitsIn history L s
  fits_of sendable = fits_in (subst (AllByRecursion IsReply) all_are sendable)

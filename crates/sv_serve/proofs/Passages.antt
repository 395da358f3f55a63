-- One session that was served: what its connection moved, against the journal of all sessions.
use Rattle.std.proofs.Common.{◌≡◌, ◌⊎◌, ℕ, true, false, List, map, reverse, inl, inr, None, refl, sym, ap, subst, ◌∙◌, true≢false}
use Rattle.std.proofs.lemmas.Bool.{lt-ltb}
use mathlib.Core.List.{IsPrefix}
use Rattle.sv_frame.specs.Frames.{too_long}
use Rattle.sv_frame.specs.Streams.{split_frames}
use Rattle.sv_link.specs.Ends.{Told}
use Rattle.sv_wire.specs.declared.message.Request.{Request}
use Rattle.sv_journal.specs.declared.entry.Entry.{Entry}
use Rattle.sv_journal.specs.History.{accepted}
use Rattle.sv_journal.specs.Laws.{FullRepliesStay, LegalRelaysNameAccepted}
use Rattle.sv_session.specs.Requests.{StopsFor, requests_read, due_frames}
use Rattle.sv_session.specs.Serving.{ExplainsOut, ended_by}
use Rattle.sv_session.specs.declared.outcome.SessionOut.{SessionOut}
use Rattle.sv_session.specs.declared.outcome.SessionOut.TheVariants as outs
use Rattle.law_system.specs.Fits.{requests_in, replies_in}
use Rattle.law_traffic.specs.Traffic.{reply_frames, EndsWithStop}
use Rattle.law_traffic.proofs.Dues.{full_over}
use Rattle.sv_door.specs.Doors.{Passage, passage_of}
use Rattle.sv_wire.specs.declared.message.Reply.{Reply}
use Rattle.law_traffic.specs.Sessions.{IsSessionServed}
use Rattle.law_traffic.proofs.Loops.{stopped_by}
use Rattle.law_traffic.proofs.Loops as loops
use Rattle.sv_serve.specs.Passages.{AnsweredAll, IsPassageOf}

-- ---- The session

module _ (stay : FullRepliesStay) (name : LegalRelaysNameAccepted) (J : List Entry) (s : ℕ) (out : SessionOut) (end : Told) (faults : ℕ) (d : IsSessionServed J s out end faults) where
  abbrev h : List Entry
  h = reverse J

  abbrev answered : List Entry
  answered = d.served.answered

  abbrev x : Passage
  x = passage_of end faults

  steps_are : requests_in h s ≡ map (λ (e : Entry). e.request) answered
  steps_are = loops.steps_are J s out end faults d

  replies_all : replies_in (accepted h) h s ≡ full_over J answered
  replies_all = loops.all_are J s out end faults d

  received_is : end.received ≡ d.served.received
  received_is = loops.received_is J s out end faults d

  faulted : out ≡ outs.LinkFault → x.faulty ≡ true
  faulted same = lt-ltb 0 faults (d.cause.0 same)

  sent_whole : x.faulty ≡ false → x.sent ≡ reply_frames (replies_in (accepted h) h s)
  sent_whole faultless = loops.sent_whole J s out end faults d stay name (λ same. true≢false (sym (faulted same) ∙ faultless)) ∙ ap reply_frames (sym replies_all)

  stopped : (reason : SessionOut) → StopsFor reason answered → EndsWithStop (replies_in (accepted h) h s)
  stopped reason f = subst EndsWithStop (sym replies_all) (stopped_by J answered reason f)

  abbrev HowItEnded : Type 0
  HowItEnded = EndsWithStop (replies_in (accepted h) h s) ⊎ AnsweredAll h s x ⊎ (x.faulty ≡ true)

  how_ended : (o : SessionOut) → out ≡ o → ExplainsOut o d.served.received answered d.served.sent (due_frames d.after.seen answered) → HowItEnded
  how_ended outs.Closed is e =
      inr (inl (record {
        closed = loops.ended_is J s out end faults d ∙ ap (λ (o : SessionOut). ended_by o false) is;
        all = steps_are ∙ (e.0.all ∙ ap requests_read (sym received_is));
        rest = subst (λ (l : List ℕ). too_long (split_frames l).1 ≡ None) (sym received_is) e.0.rest;
      }))
  how_ended outs.Left is e = inl (stopped outs.Left e.0)
  how_ended outs.Ended is e = inl (stopped outs.Ended e.0)
  how_ended outs.Malformed is e = inl (stopped outs.Malformed e.0)
  how_ended outs.Spent is e = inl (stopped outs.Spent e.0)
  how_ended outs.LinkFault is e = inr (inr (faulted is))
  how_ended outs.Memory is e = absurd (d.memory is)

  pub passage_is : IsPassageOf h s x
  passage_is =
      record {
        asked = subst (λ (qs : List Request). IsPrefix qs (requests_read x.received)) (sym steps_are)
            (subst (λ (l : List ℕ). IsPrefix (map (λ (e : Entry). e.request) answered) (requests_read l)) (sym received_is) d.served.requests);
        replied = subst (λ (ws : List Reply). IsPrefix x.sent (reply_frames ws)) (sym replies_all) (loops.sent_part J s out end faults d stay name);
        whole = sent_whole;
        end = how_ended out refl d.served.cause;
      }

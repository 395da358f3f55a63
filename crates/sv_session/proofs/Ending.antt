-- The End is stepped, after all rounds.
use Rattle.std.proofs.Common.{◌≡◌, List, [], ◌∷◌, ◌++◌, sym, ap, subst, ◌∙◌}
use Rattle.std.specs.Prelude.{true, reverse, unwrap_or}
use mathlib.Core.List.{IsPrefix}
use Rattle.sv_lock.proofs.Histories.{prefix_trans}
use Rattle.sv_wire.specs.declared.message.Reply.{Reply}
use Rattle.sv_wire.specs.declared.message.Request.TheVariants as requests
use Rattle.sv_journal.specs.declared.entry.Entry.{Entry}
use Rattle.sv_journal.specs.declared.entry.Logged.TheVariants as logged
use Rattle.sv_journal.specs.Answer.{Legal}
use Rattle.sv_journal.specs.Laws.{FullRepliesStay}
use Rattle.sv_journal.specs.History.{entry_of}
use Rattle.sv_lock.specs.Histories.{entries_of, GoesOnTo}
use Rattle.sv_lock.specs.Passes.{session_number}
use Rattle.sv_link.specs.Ends.{Told}
use Rattle.sv_journal.specs.History.{logged_of}
use Rattle.sv_session.specs.Requests.{due_frames}
use Rattle.sv_session.specs.Serving.{SessionPass, IsSamePass, ExplainsOut, Served}
use Rattle.sv_session.specs.Rounds.{stand, Halts}
use Rattle.sv_session.specs.declared.outcome.SessionOut.{SessionOut}
use Rattle.sv_session.proofs.Replies.{frames_on}
use Rattle.sv_session.proofs.Joined.{same_twice}
use Rattle.sv_session.proofs.Rounds.{latest, goes_on_prefix, legal_latest}

module _ (law : FullRepliesStay) (old : Told) (before : SessionPass) (out : SessionOut) (told : Told) (between after : SessionPass) (new : Told) (reply : Reply) (h : Halts (stand old before [] []) out told between)
    (same : IsSamePass between after) (on : GoesOnTo between.seen (entry_of (session_number between) requests.End (logged_of reply)) after.seen) (legal : Legal after.base (reverse after.seen)) where
  end_replied : logged_of reply ≡ logged.Bye
  end_replied =
      let at = latest between.seen (entry_of (session_number between) requests.End (logged_of reply)) after.seen on in
      legal_latest after.base (reverse after.seen) (entry_of (session_number between) requests.End (logged_of reply)) at.0 at.1 legal

  number_same : session_number between ≡ session_number before
  number_same = ap (λ o. unwrap_or o 0) h.steps.same.session

  grown : IsPrefix between.seen after.seen
  grown = goes_on_prefix between.seen (entry_of (session_number between) requests.End (logged_of reply)) after.seen on

  due : due_frames between.seen h.answered ≡ due_frames after.seen h.answered
  due = sym (frames_on law between.seen after.seen h.answered grown h.steps.named)

  pub served : new ≡ record told { closed = true } → after.mine ≡ between.mine ++ entry_of (session_number between) requests.End (logged_of reply) ∷ [] →
      entries_of (λ (e : Entry). e.session) (session_number after) after.seen ≡ after.mine → Served old before out new after
  served closed mine just =
      record {
        received = h.received;
        sent = h.sent;
        answered = h.answered;
        told = closed ∙ ap (λ (t : Told). record t { closed = true }) h.told;
        same = same_twice before between after h.steps.same same;
        goes_on = prefix_trans before.seen between.seen after.seen h.steps.goes_on grown;
        lawful = legal;
        just = just;
        mine = mine ∙ (ap (λ (l : List Entry). l ++ entry_of (session_number between) requests.End (logged_of reply) ∷ []) h.steps.mine
            ∙ (ap (λ n. (before.mine ++ h.answered) ++ entry_of n requests.End (logged_of reply) ∷ []) number_same ∙ ap (λ l. (before.mine ++ h.answered) ++ entry_of (session_number before) requests.End l ∷ []) end_replied));
        no_other = h.no_end;
        requests = h.requests;
        replies = subst (λ l. IsPrefix h.sent l) due h.replies;
        cause = subst (λ l. ExplainsOut out h.received h.answered h.sent l) due h.cause;
        exactly = λ reason stop all. h.exactly reason stop (all ∙ sym due);
      }

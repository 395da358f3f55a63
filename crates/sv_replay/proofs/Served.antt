-- What a session's turn by its connection makes of a server, and that a sequencer answers as a server is to.
use Rattle.std.proofs.Common.{◌≡◌, ℕ, ◌+◌, Bool, true, false, List, [], ◌∷◌, ◌++◌, length, reverse, Some, None, Result, Ok, Err, refl, sym, ap, ◌∙◌, arith}
use Rattle.std.specs.Prelude.{IfOk, is_some}
use Rattle.std.specs.declared.alloc.AllocError.{AllocError}
use Rattle.std.proofs.lemmas.List.{reverse-append}
use Rattle.sv_wire.specs.declared.message.Reply.{Reply}
use Rattle.sv_wire.specs.declared.message.Request.{Request}
use Rattle.sv_wire.specs.declared.message.Request.TheVariants as requests
use Rattle.sv_journal.specs.declared.entry.Entry.{Entry}
use Rattle.sv_journal.specs.History.{accepted, full_reply, logged_of}
use Rattle.sv_journal.specs.Sessions.{is_end, is_ended}
use Rattle.sv_journal.specs.Answer.{reply_to}
use Rattle.law_system.specs.Fits.{replies_in}
use Rattle.law_system.proofs.Fronts.{fronts-same}
use Rattle.law_system.proofs.Entered.{as-many, replies-one}
use Rattle.law_schedule.specs.Serving.{Server, served}
use Rattle.law_schedule.specs.Schedule.{plain_server}
use Rattle.law_schedule.specs.Served.{RepliesNameAccepted}
use Rattle.law_schedule.proofs.SoundReplies.{replies-grow}
use Rattle.sv_journal.specs.History.{entry_of}
use Rattle.sv_sequencer.specs.Step.{SequencerView, history, GrewByEntry, StepAnswered}
use Rattle.sv_session.specs.Requests.{stop_of}
use Rattle.sv_exchange.specs.View.{ExchangeView, TakesRequest}
use Rattle.sv_journal.proofs.Stays.{logged-back}
use Rattle.sv_replay.specs.Serving.{ServerView, Answers, sequencer_view, whole_reply, next_history, next_channel, with_answer, Entered, HadTurn, one_if}

IsAsked : Request → Type 0
IsAsked q = is_end q ≡ false

-- ---- Whole replies stay

pub replies_stay : (e : Entry) (h : List Entry) (s : ℕ) → RepliesNameAccepted h → replies_in (accepted h) h s ≡ replies_in (accepted (e ∷ h)) h s
replies_stay e h s named =
    fronts-same (replies_in (accepted h) h s) (replies_in (accepted (e ∷ h)) h s) (replies_in (accepted (e ∷ h)) (e ∷ h) s) (replies-grow e h s named) (replies-one (accepted (e ∷ h)) e h s)
    (as-many (accepted h) h s ∙ sym (as-many (accepted (e ∷ h)) h s))

-- ---- Which turn it is

module _ (server : Server) (h : List Entry) (s : ℕ) (c : ExchangeView) where
  pub next_ended : is_ended h s ≡ true → (next_history server h s c ≡ h) × (next_channel server h s c ≡ c)
  next_ended e = (rw e refl, rw e refl)

  pub next_stopped : is_ended h s ≡ false → c.stopped ≡ true → (next_history server h s c ≡ served server h s requests.End) × (next_channel server h s c ≡ record c { stopped = true })
  next_stopped e t = (rw (e, t) refl, rw (e, t) refl)

  pub next_closed : is_ended h s ≡ false → c.stopped ≡ false → c.requests ≡ [] → c.closed ≡ true →
      (next_history server h s c ≡ served server h s requests.End) × (next_channel server h s c ≡ record c { stopped = true })
  next_closed e t q k = (rw (e, t, q, k) refl, rw (e, t, q, k) refl)

  pub next_idle : is_ended h s ≡ false → c.stopped ≡ false → c.requests ≡ [] → c.closed ≡ false → (next_history server h s c ≡ h) × (next_channel server h s c ≡ c)
  next_idle e t q k = (rw (e, t, q, k) refl, rw (e, t, q, k) refl)

  pub next_asked : (q : Request) (qs : List Request) → is_ended h s ≡ false → c.stopped ≡ false → c.requests ≡ q ∷ qs →
      (next_history server h s c ≡ served server h s q) × (next_channel server h s c ≡ record c {
        requests = qs;
        replies = c.replies ++ whole_reply server h s q ∷ [];
        stopped = is_some (stop_of (server.answers h s q));
      })
  next_asked q qs e t is = (rw (e, t, is) refl, rw (e, t, is) refl)

pub serves_ended : (s : ℕ) (v : ServerView) (c : ExchangeView) → true ≡ is_ended v.history s → HadTurn s v v c c
serves_ended s v c e =
    let n = next_ended v.server v.history s c (sym e) in
    record { rules = refl; server = refl; entries = sym n.0; channel = sym n.1 }

pub serves_end : (s : ℕ) (v w : ServerView) (c d : ExchangeView) → is_ended v.history s ≡ false → c.stopped ≡ true →
    Entered s requests.End v w d (record c { stopped = true }) → HadTurn s v w c d
serves_end s v w c d e t done =
    let n = next_stopped v.server v.history s c e t in
    record { rules = done.rules; server = done.server; entries = done.entries ∙ sym n.0; channel = done.channel ∙ sym n.1 }

pub serves_closed : (s : ℕ) (v w : ServerView) (c b d : ExchangeView) → is_ended v.history s ≡ false → c.stopped ≡ false → TakesRequest c b None → b.closed ≡ true →
    Entered s requests.End v w d (record b { stopped = true }) → HadTurn s v w c d
serves_closed s v w c b d e t none k done =
    let n = next_closed v.server v.history s c e t none.0 (ap (λ (x : ExchangeView). x.closed) (sym none.1) ∙ k) in
    record {
      rules = done.rules;
      server = done.server;
      entries = done.entries ∙ sym n.0;
      channel = done.channel ∙ ap (λ (x : ExchangeView). record x { stopped = true }) none.1 ∙ sym n.1;
    }

pub serves_idle : (s : ℕ) (v : ServerView) (c b : ExchangeView) → is_ended v.history s ≡ false → c.stopped ≡ false → TakesRequest c b None → b.closed ≡ false → HadTurn s v v c b
serves_idle s v c b e t none k =
    let n = next_idle v.server v.history s c e t none.0 (ap (λ (x : ExchangeView). x.closed) (sym none.1) ∙ k) in
    record { rules = refl; server = refl; entries = sym n.0; channel = none.1 ∙ sym n.1 }

pub serves_asked : (s : ℕ) (v w : ServerView) (c b d : ExchangeView) (q : Request) → is_ended v.history s ≡ false → c.stopped ≡ false → TakesRequest c b (Some q) →
    Entered s q v w d (with_answer v.server v.history s q b) → HadTurn s v w c d
serves_asked s v w c b d q e t some done =
    let n = next_asked v.server v.history s c q b.requests e t (ap (λ (x : ExchangeView). x.requests) some) in
    record {
      rules = done.rules;
      server = done.server;
      entries = done.entries ∙ sym n.0;
      channel = done.channel
          ∙ ap (λ (x : ExchangeView). record x {
            requests = b.requests;
            replies = x.replies ++ whole_reply v.server v.history s q ∷ [];
            stopped = is_some (stop_of (v.server.answers v.history s q));
          }) (sym some)
          ∙ sym n.1;
    }

-- A history with one entry more is longer.
pub entered_longer : (s : ℕ) (q : Request) (v w : ServerView) (c d : ExchangeView) → Entered s q v w c d → length w.history ≡ length v.history + one_if true
entered_longer s q v w c d done = let long : length w.history ≡ length (served v.server v.history s q) = ap (λ (h : List Entry). length h) done.entries in omega (arith, long)

-- A step entered a request with its reply.
pub answer_entered : (v w : ServerView) (s : ℕ) (q : Request) (reply : Reply) (stops : Bool) (b d : ExchangeView) → Answers v w s q reply → stops ≡ is_some (stop_of (logged_of reply)) →
    d ≡ record b { replies = b.replies ++ reply ∷ []; stopped = stops } → Entered s q v w d (with_answer v.server v.history s q b)
answer_entered v w s q reply stops b d done stop sent =
    let last : stops ≡ is_some (stop_of (v.server.answers v.history s q)) =
    stop ∙ ap (λ l. is_some (stop_of l)) (ap logged_of done.whole ∙ logged-back (accepted (served v.server v.history s q)) (v.server.answers v.history s q)) in
    record {
      rules = done.rules;
      server = done.server;
      entries = done.entries;
      channel = sent ∙ ap (λ (x : Reply). record b { replies = b.replies ++ x ∷ []; stopped = stops }) done.whole
          ∙ ap (λ (x : Bool). record b { replies = b.replies ++ whole_reply v.server v.history s q ∷ []; stopped = x }) last;
    }

pub end_entered : (v w : ServerView) (s : ℕ) (reply : Reply) (b d : ExchangeView) → Answers v w s requests.End reply → d ≡ record b { stopped = true } →
    Entered s requests.End v w d (record b { stopped = true })
end_entered v w s reply b d done stop = record { rules = done.rules; server = done.server; entries = done.entries; channel = stop }

-- ---- The sequencer

grew_history : (v w : SequencerView) (e : Entry) → GrewByEntry v w e → history w ≡ e ∷ history v
grew_history v w e g = ap reverse g.entries ∙ reverse-append v.journal.entries (e ∷ [])

pub sequencer_answers : (v w : SequencerView) (s : ℕ) (q : Request) (r : Result Reply AllocError) → IfOk r (StepAnswered v w s q) → IfOk r (Answers (sequencer_view v) (sequencer_view w) s q)
sequencer_answers v w s q (Err e) done = tt
sequencer_answers v w s q (Ok reply) done =
    let grown : history w ≡ served (plain_server v.rules) (history v) s q = grew_history v w (entry_of s q (reply_to v.rules (history v) s q)) done.grew in
    record {
      rules = done.grew.rules;
      server = ap plain_server done.grew.rules;
      entries = grown;
      whole = done.whole ∙ ap (λ (h : List Entry). full_reply (accepted h) (reply_to v.rules (history v) s q)) grown;
    }

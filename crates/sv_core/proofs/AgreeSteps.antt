-- A core's fields after an entry of a session.
use Rattle.std.proofs.Common.{◌≡◌, ℕ, ◌+◌, ◌<◌, ◌≤◌, Bool, true, false, ◌&&◌, cond, nat_eq, max, List, [], ◌∷◌, ◌++◌, length, Some, is_some, slice_get, refl, sym, ◌∙◌, ap, subst, arith, append-nil}
use Rattle.std.proofs.lemmas.Bool.{both_ways}
use Rattle.sv_world.specs.Control.{is_in}
use Rattle.sv_wire.specs.declared.message.Request.{Request}
use Rattle.sv_journal.specs.declared.entry.Entry.{Entry}
use Rattle.sv_journal.specs.declared.entry.Logged.{Logged}
use Rattle.sv_journal.specs.History.{is_welcome, is_noted, is_client, joining, accepted, result_at, run_length, commit_of}
use Rattle.sv_journal.specs.Sessions.{is_end, is_last, life_in, life_of, positions_in, named_in}
use Rattle.sv_journal.specs.Answer.{Rules}
use Rattle.sv_queue.specs.Queue.{QueueView}
use Rattle.sv_clients.specs.declared.clients.Clients.{Clients}
use Rattle.sv_core.specs.declared.sessions.SessionRow.{SessionRow}
use Rattle.sv_core.specs.Agreement.{sent_at, named_at, IsClientRow, IsSoundHistory, Agrees}
use Rattle.sv_clients.specs.Clients.{client_row, KeepsOutcomes}
use Rattle.sv_core.specs.Decisions.{IsQuietEntry}
use Rattle.sv_core.specs.Fits.{QueueFits}
use Rattle.sv_core.specs.Rows.{seat_in, owes_end, count_rows}
use Rattle.sv_journal.specs.History.{entry_of}
use Rattle.sv_core.proofs.FitMarks.{fits-same}
use Rattle.sv_core.proofs.HistorySteps.{accepted-quiet, result-quiet, run_length-ext}
use Rattle.sv_core.proofs.Seating.{AreAfter, seats-same, rows-next, seated-next, sent-next, named-next, sent-all}
use Rattle.sv_core.proofs.SoundSteps.{IsSoundStep, sound-next}

pub commit-same : (e : Entry) (h : List Entry) → accepted (e ∷ h) ≡ accepted h → ((p : ℕ) → result_at (e ∷ h) p ≡ result_at h p) → commit_of (e ∷ h) ≡ commit_of h
commit-same e h same results =
    ap (λ n. run_length (λ p. is_some (result_at (e ∷ h) p)) n) (ap length same)
    ∙ run_length-ext (λ p. is_some (result_at (e ∷ h) p)) (λ p. is_some (result_at h p)) (length (accepted h)) (λ p. ap is_some (results p))

pub life-quiet : (e : Entry) (h : List Entry) (k : ℕ) → is_welcome e.reply ≡ false → life_of (e ∷ h) k ≡ life_of h k
life-quiet e h k q = ap (λ b. cond (b && is_client (joining e.request) k) (max (life_in e.request) (life_of h k)) (life_of h k)) q

-- What was sent to the sessions of the slots, once the one at a slot has an entry; and the commits of the replies whose heads name an object.
abbrev pub sent_after : Entry → ℕ → (ℕ → List ℕ) → ℕ → List ℕ
sent_after e slot S i = cond (nat_eq slot i) (S i ++ positions_in e.reply) (S i)

abbrev pub named_after : Entry → ℕ → (ℕ → ℕ → List ℕ) → ℕ → ℕ → List ℕ
named_after e slot N i x = cond (nat_eq slot i) (N i x ++ named_in e.reply x) (N i x)

abbrev pub sent_seats : List Entry → List SessionRow → ℕ → List ℕ
sent_seats h rows slot = sent_at h (seat_in rows slot)

abbrev pub named_seats : List Entry → List SessionRow → ℕ → ℕ → List ℕ
named_seats h rows slot = named_at h (seat_in rows slot)

-- What was sent to the session of a slot is accepted.
pub sent-within : (r : Rules) (h : List Entry) (rows : List SessionRow) → IsSoundHistory r h → (t p : ℕ) → is_in p (sent_seats h rows t) ≡ true → p ≤ length (accepted h)
sent-within r h rows sound t = sent-all (λ ps. (p : ℕ) → is_in p ps ≡ true → p ≤ length (accepted h)) h (seat_in rows t) (λ p m. absurd (both_ways false refl m)) sound.sent

-- The fields agree with a history of one entry more where the queue fits it, with what the entry's session was sent at its slot.
pub agree-next : (r : Rules) (h : List Entry) (e : Entry) (v w : QueueView) (rows next : List SessionRow) (clients after : Clients) (owed left slot : ℕ) →
    Agrees r h v rows clients owed → seat_in rows slot ≡ Some e.session → AreAfter slot e rows next → IsSoundStep r h e → w.room ≡ v.room →
    QueueFits r.world (accepted (e ∷ h)) (result_at (e ∷ h)) (sent_after e slot (sent_seats h rows)) (named_after e slot (named_seats h rows)) w →
    w.commit ≡ commit_of (e ∷ h) → ((k : ℕ) → IsClientRow (e ∷ h) k (client_row after k)) → left ≡ count_rows owes_end next → Agrees r (e ∷ h) w next after left
agree-next r h e v w rows next clients after owed left slot a at rows' step rooms fits commit clients' owes = record {
  sound = sound-next r h e step a.sound;
  positions = a.positions;
  few = omega (arith, a.few, rows'.count);
  room = omega (arith, a.room, rooms, rows'.count);
  fits = fits-same r.world (accepted (e ∷ h)) (result_at (e ∷ h)) (result_at (e ∷ h)) (sent_after e slot (sent_seats h rows)) (sent_seats (e ∷ h) next)
      (named_after e slot (named_seats h rows)) (named_seats (e ∷ h) next) w (λ p some. refl)
      (λ i. sent-next e h rows slot i a.seats at ∙ ap (sent_at (e ∷ h)) (sym (seats-same slot e rows next rows' i)))
      (λ i x. named-next e h rows slot i x a.seats at ∙ ap (λ o. named_at (e ∷ h) o x) (sym (seats-same slot e rows next rows' i))) fits;
  commit = commit;
  seats = seated-next e h slot rows next a.seats at (seats-same slot e rows next rows');
  session_rows = rows-next r e h slot rows next a.seats at rows' a.session_rows;
  client_rows = clients';
  ends = owes;
}

-- ---- Entries that change nothing but their own session

pub sent-quiet : (e : Entry) (slot : ℕ) (S : ℕ → List ℕ) (i : ℕ) → positions_in e.reply ≡ [] → S i ≡ sent_after e slot S i
sent-quiet e slot S i q = go (nat_eq slot i)
  where
    go : (b : Bool) → S i ≡ cond b (S i ++ positions_in e.reply) (S i)
    go true = sym (ap (λ xs. S i ++ xs) q ∙ append-nil (S i))
    go false = refl

pub named-quiet : (e : Entry) (slot : ℕ) (N : ℕ → ℕ → List ℕ) (i x : ℕ) → named_in e.reply x ≡ [] → N i x ≡ named_after e slot N i x
named-quiet e slot N i x q = go (nat_eq slot i)
  where
    go : (b : Bool) → N i x ≡ cond b (N i x ++ named_in e.reply x) (N i x)
    go true = sym (ap (λ xs. N i x ++ xs) q ∙ append-nil (N i x))
    go false = refl

-- The queue fits a history with an entry that accepts, sends, names and reports nothing.
pub fits-quiet : (r : Rules) (h : List Entry) (e : Entry) (v : QueueView) (S : ℕ → List ℕ) (N : ℕ → ℕ → List ℕ) (slot : ℕ) →
    accepted (e ∷ h) ≡ accepted h → is_noted e.reply ≡ false → positions_in e.reply ≡ [] → ((x : ℕ) → named_in e.reply x ≡ []) →
    QueueFits r.world (accepted h) (result_at h) S N v →
    QueueFits r.world (accepted (e ∷ h)) (result_at (e ∷ h)) (sent_after e slot S) (named_after e slot N) v
fits-quiet r h e v S N slot same noted positions named f =
    subst (λ A. QueueFits r.world A (result_at (e ∷ h)) (sent_after e slot S) (named_after e slot N) v) (sym same)
    (fits-same r.world (accepted h) (result_at h) (result_at (e ∷ h)) S (sent_after e slot S) N (named_after e slot N) v
    (λ p some. sym (result-quiet e h p noted)) (λ i. sent-quiet e slot S i positions) (λ i x. named-quiet e slot N i x (named x)) f)

none : (p : ℕ) {xs : List ℕ} → xs ≡ [] → is_in p xs ≡ true → ⊥
none p q m = (let no' : false ≡ true = ap (is_in p) (sym q) ∙ m in cc)

pub agree-quiet : (r : Rules) (h : List Entry) (v : QueueView) (rows next : List SessionRow) (clients : Clients) (owed left slot s : ℕ) (request : Request) (reply : Logged) →
    Agrees r h v rows clients owed → seat_in rows slot ≡ Some s → IsQuietEntry h s request reply → (is_end request ≡ true → is_last reply ≡ true) →
    AreAfter slot (entry_of s request reply) rows next → left ≡ count_rows owes_end next → Agrees r (entry_of s request reply ∷ h) v next clients left
agree-quiet r h v rows next clients owed left slot s request reply a at quiet last after owes =
    agree-next r h e v v rows next clients clients owed left slot a at after
    (record {
      grows = omega (arith, ap length same);
      positions = omega (arith, ap length same, a.sound.positions);
      numbers = λ k. omega (arith, ap length (quiet.outcomes k), a.sound.numbers k);
      commit = omega (arith, commit);
      reported = λ q. absurd (both_ways (is_noted reply) quiet.noted q);
      sent = λ p m. absurd (none p quiet.positions m);
      closed = λ p x m. absurd (none p quiet.positions m);
      named = λ x q m. absurd (none q (quiet.named x) m);
      outcomes = λ k n p q. omega (arith, a.sound.outcomes k n p (ap (λ os. slice_get os n) (sym (quiet.outcomes k)) ∙ q), ap length same);
      ended = last;
    })
    refl (fits-quiet r h e v (sent_seats h rows) (named_seats h rows) slot same quiet.noted quiet.positions quiet.named a.fits)
    (a.commit ∙ sym commit)
    (λ k. record { life = (a.client_rows k).life ∙ sym (life-quiet e h k quiet.welcome); outcomes = subst (λ os. KeepsOutcomes os (client_row clients k)) (sym (quiet.outcomes k)) (a.client_rows k).outcomes }) owes
  where
    e : Entry
    e = entry_of s request reply

    same : accepted (e ∷ h) ≡ accepted h
    same = accepted-quiet e h quiet.relay

    commit : commit_of (e ∷ h) ≡ commit_of h
    commit = commit-same e h same (λ p. result-quiet e h p quiet.noted)

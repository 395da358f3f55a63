-- What is due by the queue and the reports that are kept is what is due by the history.
use Rattle.std.proofs.Common.{◌≡◌, ℕ, suc, ◌<◌, ◌≤◌, Bool, true, false, ◌&&◌, not, nat_lt, inl, inr, List, filter, length, ℤ, Option, Some, None, is_none, refl, sym, ap, ◌∙◌, arith, true≢false}
use Rattle.std.specs.List.{list_any}
use Rattle.std.proofs.lemmas.Bool.{ltb-true, cases_lt}
use Rattle.std.proofs.lemmas.List.{get_or_past}
use Rattle.std.proofs.lemmas.Option.{none-some}
use Rattle.sv_world.specs.Control.{is_in, below}
use Rattle.sv_world.proofs.Bases.{below-is_in}
use Rattle.sv_world.proofs.Members.{filter-ext}
use Rattle.sv_queue.specs.Queue.{QueueView, entry_at, sent_positions}
use Rattle.sv_journal.specs.declared.entry.Entry.{Entry}
use Rattle.sv_journal.specs.History.{Authored, client_of, accepted, result_at}
use Rattle.sv_journal.specs.Sessions.{sent_to}
use Rattle.sv_journal.specs.Answer.{Rules}
use Rattle.sv_core.specs.declared.sessions.SessionRow.{SessionRow}
use Rattle.sv_core.specs.Agreement.{sent_at, named_at, FitsSeats}
use Rattle.sv_core.specs.Rows.{no_session, seat_in}
use Rattle.sv_core.proofs.FitRelays.{sent-is}
use Rattle.sv_witness.specs.Reports.{is_by, has_reported, reports_of, agreed_history, agreed_result, agreed_commit, is_due, due_to}
use Rattle.sv_witness.specs.Kept.{RowView, kept_at, KeepsReports}
use Rattle.sv_witness.specs.Due.{is_due_in, due_in}
use Rattle.sv_witness.proofs.Agreed.{results-agreed}
use Rattle.sv_witness.proofs.Same.{accepted-agreed, sent-agreed}

sent-within : (h : List Entry) → ((t q : ℕ) → is_in q (sent_to h t) ≡ true → q ≤ length (accepted h)) → (o : Option ℕ) (q : ℕ) → is_in q (sent_at h o) ≡ true → q ≤ length (accepted h)
sent-within h within None q m = absurd (true≢false (sym m))
sent-within h within (Some t) q m = within t q m

-- A session sits at one of the slots that there are.
pub seat-within : (seats : List SessionRow) (slot s : ℕ) → seat_in seats slot ≡ Some s → slot < length seats
seat-within seats slot s sits =
    elim (cases_lt slot (length seats)) [
      | inl low ↦ low
      | inr high ↦ absurd (none-some s (sym (ap (λ (row : SessionRow). row.session) (get_or_past seats slot no_session high)) ∙ sits))
    ]

pub due-are : (r : Rules) (h : List Entry) (v : QueueView) (rows : List RowView) (seats : List SessionRow) (k s : ℕ) → length seats ≤ 1024 → seat_in seats s ≡ Some s →
    client_of h s ≡ Some k → KeepsReports rows h → v.commit ≡ agreed_commit h →
    ((t q : ℕ) → is_in q (sent_to (agreed_history h) t) ≡ true → q ≤ length (accepted (agreed_history h))) →
    FitsSeats r (agreed_history h) seats v → due_in v rows k s ≡ due_to h s
due-are r h v rows seats k s few sits client kept at within f =
    ap (λ n. filter (is_due_in v rows k s) (below (suc n))) (f.last ∙ ap (λ (A : List Authored). length A) (accepted-agreed h))
    ∙ filter-ext (is_due_in v rows k s) (is_due h s) (below (suc (length (accepted h))))
    (λ p m. (let high : p < suc (length (accepted h)) = below-is_in (suc (length (accepted h))) p m in
    go p (omega arith) (nat_lt v.commit p) refl
    ∙ ap (λ c. nat_lt c p && is_none (agreed_result h p) && not (is_in p (sent_to h s)) && not (has_reported (reports_of h p) (client_of h s))) at))
  where
    count : length (accepted (agreed_history h)) ≡ length (accepted h)
    count = ap (λ (A : List Authored). length A) (accepted-agreed h)

    go : (p : ℕ) → p ≤ length (accepted h) → (b : Bool) → nat_lt v.commit p ≡ b →
        (b && is_none (entry_at v p).result && not (is_in p (sent_positions v s)) && not (list_any (is_by k) (kept_at rows p)))
        ≡ (b && is_none (agreed_result h p) && not (is_in p (sent_to h s)) && not (has_reported (reports_of h p) (client_of h s)))
    go p high false q = refl
    go p high true q =
        let low : v.commit < p = ltb-true v.commit p q in
        let top : p ≤ length (accepted (agreed_history h)) = omega (arith, count) in
        ap (λ (o : Option (List (List ℤ))). true && is_none o && not (is_in p (sent_positions v s)) && not (list_any (is_by k) (kept_at rows p)))
        ((f.entries p low top).result ∙ results-agreed h p)
        ∙ ap (λ b. true && is_none (agreed_result h p) && not b && not (list_any (is_by k) (kept_at rows p)))
        (sent-is r.world (accepted (agreed_history h)) (result_at (agreed_history h)) (λ slot. sent_at (agreed_history h) (seat_in seats slot))
        (λ slot. named_at (agreed_history h) (seat_in seats slot)) v f (λ slot q m. sent-within (agreed_history h) within (seat_in seats slot) q m) s p
        (omega (arith, few, seat-within seats s s sits)) low
        ∙ ap (λ (o : Option ℕ). is_in p (sent_at (agreed_history h) o)) sits
        ∙ ap (is_in p) (sent-agreed h s))
        ∙ ap (λ b. true && is_none (agreed_result h p) && not (is_in p (sent_to h s)) && not b)
        (ap (list_any (is_by k)) (kept p (omega (arith, at))) ∙ ap (has_reported (reports_of h p)) (sym client))

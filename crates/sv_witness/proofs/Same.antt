-- What clients agree on is a keeping, so the history of it has the same sessions, clients, outcomes, accepted actions and sent positions as the journal's.
use Rattle.std.proofs.Common.{◌≡◌, ℕ, suc, ◌<◌, ◌≤◌, true, false, ◌&&◌, not, List, length, is_none, refl, arith, nat_lt, ltb-true}
use Rattle.std.proofs.lemmas.Bool.{and_parts, not-true}
use Rattle.sv_world.specs.Control.{is_in, below}
use Rattle.sv_world.proofs.Members.{is_in-filter_parts}
use Rattle.sv_world.proofs.Bases.{below-is_in}
use Rattle.sv_wire.specs.declared.message.Done1.{Done1}
use Rattle.sv_journal.specs.declared.entry.Entry.{Entry}
use Rattle.sv_journal.specs.History.{client_of, outcomes_of, accepted, commit_of}
use Rattle.sv_journal.specs.Sessions.{sent_to}
use Rattle.sv_journal.specs.Serving.{IsKeeping}
use Rattle.sv_journal.proofs.Kept.{client-kept, outcomes-kept, accepted-kept, sent-kept}
use Rattle.sv_witness.specs.Reports.{counted_in, brings_agreement, has_reported, reports_of, agreed_history, agreed_result, agreed_commit, is_due, due_to}
use Rattle.sv_witness.specs.Witnessed.{agreed}

due-parts : (h : List Entry) (s p : ℕ) → is_in p (due_to h s) ≡ true → (agreed_commit h < p) × ((p ≤ length (accepted h)) × (is_in p (sent_to h s) ≡ false))
due-parts h s p e =
    let here = is_in-filter_parts (is_due h s) p (below (suc (length (accepted h)))) e in
    let low = below-is_in (suc (length (accepted h))) p here.0 in
    let more = and_parts (nat_lt (agreed_commit h) p && is_none (agreed_result h p) && not (is_in p (sent_to h s))) (not (has_reported (reports_of h p) (client_of h s))) here.1 in
    let unsent = and_parts (nat_lt (agreed_commit h) p && is_none (agreed_result h p)) (not (is_in p (sent_to h s))) more.0 in
    let above = and_parts (nat_lt (agreed_commit h) p) (is_none (agreed_result h p)) unsent.0 in
    (ltb-true (agreed_commit h) p above.0, (omega (arith, low), not-true (is_in p (sent_to h s)) unsent.1))

pub agreed-keeping : IsKeeping agreed
agreed-keeping = record {
  none = refl;
  next = λ e h. (
    (λ (d : Done1). brings_agreement (client_of h e.session) (counted_in (commit_of (agreed_history h)) d.pos e) (reports_of h d.pos)),
    refl,
  );
  noted = λ h s commit request. refl;
  above = λ h s p e. (due-parts h s p e).0;
  within = λ h s p e. (due-parts h s p e).1.0;
  unsent = λ h s p e on. (due-parts h s p e).1.1;
}

pub client-agreed : (h : List Entry) (s : ℕ) → client_of (agreed_history h) s ≡ client_of h s
client-agreed = client-kept agreed agreed-keeping

pub outcomes-agreed : (h : List Entry) (k : ℕ) → outcomes_of (agreed_history h) k ≡ outcomes_of h k
outcomes-agreed = outcomes-kept agreed agreed-keeping

pub accepted-agreed : (h : List Entry) → accepted (agreed_history h) ≡ accepted h
accepted-agreed = accepted-kept agreed agreed-keeping

pub sent-agreed : (h : List Entry) (s : ℕ) → sent_to (agreed_history h) s ≡ sent_to h s
sent-agreed = sent-kept agreed agreed-keeping

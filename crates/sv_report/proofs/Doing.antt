-- An event of a trace, done again by a client that counts its sessions from 0.
use Rattle.std.proofs.Common.{◌≡◌, ℕ, suc, ◌+◌, ◌<◌, List, ◌++◌, length, Option, Some, None, option_map, refl, sym, ap, subst, ◌∙◌, arith}
use Rattle.std.specs.Prelude.{unwrap_or, codes}
use Rattle.std.specs.Fmt.{decimal}
use Rattle.sv_world.specs.declared.action.Action.{Action}
use Rattle.sv_world.specs.declared.world.ObjectId.{ObjectId}
use Rattle.sv_world.specs.Sets.{write_set}
use Rattle.sv_versions.specs.Held.{Held}
use Rattle.sv_pending.specs.Pending.{PendingAction, kept_of, view_over}
use Rattle.sv_wire.specs.declared.message.Request.{Request}
use Rattle.sv_journal.specs.declared.entry.Entry.{Entry}
use Rattle.sv_journal.specs.Pieces.{bracketed}
use Rattle.sv_client.specs.declared.trace.Event.{Event}
use Rattle.sv_client.specs.declared.trace.Event.TheVariants as events
use Rattle.sv_client.specs.Traces.{joins, makes, current_session, held_of, pending_of, got}
use Rattle.sv_client.specs.Taking.{Identity}
use Rattle.sv_client.specs.Proper.{MayFollow}
use Rattle.sv_client.specs.Seen.{raised}
use Rattle.sv_client.proofs.Shifts.{up_joins, up_makes, up_session, up_held, up_pending, up_current, up_outstanding, up_fault}
use Rattle.sv_report.specs.Report.{entry_number, event_text, kept_text, shown_text}
use Rattle.sv_report.specs.Again.{MayDo, again, all_raised, text_of, number_from, IsPlace}

pub may_do : (first : ℕ) (who : Identity) (t : List Event) (e : Event) → MayFollow who first (all_raised first t) e → MayDo who t e
may_do first who t (events.Join s) m = subst (λ (n : ℕ). n < 64) (up_joins first t) m.few
may_do first who t (events.Make a) m = record {
  joined = sym (up_session first t) ∙ m.joined;
  good = m.good;
  room = subst (λ (ps : List PendingAction). length ps < 8) (up_pending first t) m.room;
  calm = subst (λ (rs : List Request). length rs < 16) (up_outstanding first who t) m.calm;
  few = subst (λ (n : ℕ). n < 65536) (up_makes first t) m.few;
}
may_do first who t events.Poll m = record {
  joined = sym (up_session first t) ∙ m.joined;
  calm = subst (λ (rs : List Request). length rs < 16) (up_outstanding first who t) m.calm;
}
may_do first who t (events.Observe objects wait) m = record {
  joined = sym (up_session first t) ∙ m.joined;
  good = m.good;
  calm = subst (λ (rs : List Request). length rs < 16) (up_outstanding first who t) m.calm;
}
may_do first who t events.Leave m = record { joined = sym (up_session first t) ∙ m.joined; settled = sym (up_outstanding first who t) ∙ m.settled }
may_do first who t (events.Got s reply) m = sym (up_fault first who t reply) ∙ m.taken
may_do first who t events.Cut m = tt
may_do first who t events.Quit m = tt
may_do first who t (events.Show os) m = tt

latest_is : (first s : ℕ) (o : Option ℕ) → option_map (λ k. k + first) o ≡ Some s → unwrap_or o 0 + first ≡ s
latest_is first s None e = cc
latest_is first s (Some k) e = cc

-- The event that the client does is that of the trace, but for the number of its session.
pub same_event : (first : ℕ) (who : Identity) (t : List Event) (e : Event) → MayFollow who first (all_raised first t) e → raised first (again t e) ≡ e
same_event first who t (events.Join s) m =
    let same : joins t + first ≡ s = omega (arith, m.next, up_joins first t) in ap (λ (n : ℕ). events.Join n) same
same_event first who t (events.Make a) m = refl
same_event first who t events.Poll m = refl
same_event first who t (events.Observe objects wait) m = refl
same_event first who t events.Leave m = refl
same_event first who t (events.Got s reply) m =
    ap (λ (n : ℕ). events.Got n reply) (latest_is first s (current_session t) (sym (up_current first t) ∙ m.current))
same_event first who t events.Cut m = refl
same_event first who t events.Quit m = refl
same_event first who t (events.Show os) m = refl

abbrev made_text : ℕ → List Held → List PendingAction → Action → List ℕ
made_text n held pending a = codes "make " ++ decimal n ++ codes " kept " ++ kept_text (write_set a) (kept_of held pending a)

made_is : (n m : ℕ) (held hs : List Held) (pending ps : List PendingAction) (a : Action) → n ≡ m → held ≡ hs → pending ≡ ps → made_text n held pending a ≡ made_text m hs ps a
made_is n m held hs pending ps a e f g =
    ap (λ (k : ℕ). made_text k held pending a) e ∙ ap (λ (xs : List Held). made_text m xs pending a) f ∙ ap (λ (xs : List PendingAction). made_text m hs xs a) g

abbrev seen_text : List Held → List PendingAction → List ObjectId → List ℕ
seen_text held pending objects = codes "show " ++ bracketed (λ (o : ObjectId). shown_text o.0 (view_over held pending o.0)) objects

-- Its text is that of the trace.
pub same_text : (first : ℕ) (entries : List Entry) (place : ℕ) (who : Identity) (t : List Event) (e : Event) → MayFollow who first (all_raised first t) e
    → IsPlace entries (all_raised first t) place → text_of (number_from entries place e) t e ≡ event_text entries (all_raised first t) e
same_text first entries place who t (events.Join s) m h = refl
same_text first entries place who t (events.Make a) m h =
    made_is (makes t + 1) (suc (makes (all_raised first t))) (held_of t) (held_of (all_raised first t)) (pending_of t) (pending_of (all_raised first t)) a
    (omega (arith, up_makes first t)) (sym (up_held first t)) (sym (up_pending first t))
same_text first entries place who t events.Poll m h = refl
same_text first entries place who t (events.Observe objects wait) m h = refl
same_text first entries place who t events.Leave m h = refl
same_text first entries place who t (events.Got s reply) m h =
    let n = length (got (all_raised first t) s) in
    let plain : n + 0 ≡ n = omega arith in
    ap (λ (k : ℕ). codes "got s" ++ decimal s ++ codes " #" ++ decimal k) (sym (h.numbers s 0 m.current) ∙ ap (λ (k : ℕ). entry_number entries s k 1) plain)
same_text first entries place who t events.Cut m h = refl
same_text first entries place who t events.Quit m h = refl
same_text first entries place who t (events.Show os) m h =
    ap (λ (xs : List Held). seen_text xs (pending_of t) os) (sym (up_held first t)) ∙ ap (λ (xs : List PendingAction). seen_text (held_of (all_raised first t)) xs os) (sym (up_pending first t))

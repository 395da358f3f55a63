-- The next reply to a client has no fault.
use Rattle.std.proofs.Common.{◌≡◌, ℕ, ℤ, ◌<◌, ◌≤◌, Bool, true, false, not, List, reverse, length, Option, Some, None, slice_get, refl, sym, ap, ◌∙◌, arith, true≢false}
use Rattle.std.specs.Prelude.{if◌then◌else◌, All}
use Rattle.sv_world.specs.declared.world.World.{World}
use Rattle.sv_world.specs.Limits.{most_positions}
use Rattle.sv_wire.specs.declared.message.Request.{Request}
use Rattle.sv_wire.specs.declared.message.Reply.{Reply}
use Rattle.sv_journal.specs.declared.entry.Entry.{Entry}
use Rattle.sv_journal.specs.History.{accepted, actions_of}
use Rattle.sv_journal.specs.Answer.{Rules, scenario_rules, Legal}
use Rattle.sv_journal.specs.Serving.{Keeping, plain}
use Rattle.sv_client.specs.declared.trace.Event.{Event}
use Rattle.sv_client.specs.declared.trace.Trace.{Trace}
use Rattle.sv_client.specs.Traces.{current_session, held_of, pending_of, requests_of, asked, got}
use Rattle.sv_client.specs.Kinds.{kind_of}
use Rattle.sv_client.specs.Taking.{Identity, WrongKind, BadOrder, BadItem, allows, is_out_of_order, has_bad_item, missing_in, missing_fault, unanswered, fault_after, first_fault_of_reply}
use Rattle.sv_client.specs.Proper.{Proper, identity_of}
use Rattle.law_system.specs.Fits.{replies_in, Fits}
use Rattle.law_system.specs.Served.{OwnsSessions}
use Rattle.law_system.specs.Within.{KeepsLimits}
use Rattle.law_system.specs.Journals.{ResultsAreSerial}
use Rattle.law_system.proofs.Awaited.{Awaited, Truthful}
use Rattle.law_system.proofs.Entered.{entered}
use Rattle.law_system.proofs.Aligned.{drop-one}
use Rattle.law_system.proofs.Asking.{IsServed, same-allows, same-kind, same-items}
use Rattle.law_system.proofs.Trusted.{noted-serial}
use Rattle.law_system.proofs.Owned.{plain-served, owns-own}
use Rattle.law_system.proofs.Opened.{asks}
use Rattle.law_system.proofs.Allowed.{allowed}
use Rattle.law_system.proofs.Ordered.{ordered, complete}
use Rattle.law_system.proofs.GoodItems.{no-bad_item}
use Rattle.law_system.proofs.Within.{scenario-keeps}

none-left : (b c d : Bool) (o : Option (ℕ × ℕ)) → b ≡ true → c ≡ false → d ≡ false → o ≡ None →
    (if not b then Some WrongKind else if c then Some BadOrder else if d then Some BadItem else missing_fault o) ≡ None
none-left false c d o k e g f = absurd (true≢false (sym k))
none-left true true d o k e g f = absurd (true≢false e)
none-left true false true o k e g f = absurd (true≢false g)
none-left true false false o k e g f = ap missing_fault f

-- None of the five faults applies where the reply was asked for, is of an allowed kind, in order, without a bad item and complete.
answered-well : (who : Identity) (t : List Event) (s : ℕ) (q : Request) (reply : Reply) → current_session t ≡ Some s →
    slice_get (asked who.client who.interest t s) (length (got t s)) ≡ Some q → allows q reply ≡ true → is_out_of_order t reply ≡ false →
    has_bad_item who (pending_of t) q reply ≡ false → missing_in (held_of t) (kind_of q) reply ≡ None → first_fault_of_reply who t reply ≡ None
answered-well who t s q reply c e k o i m =
    ap (λ (x : Option ℕ). fault_after who t (unanswered who t x) reply) c
    ∙ ap (λ (qs : List Request). fault_after who t qs reply) (drop-one (length (got t s)) (asked who.client who.interest t s) q e)
    ∙ none-left (allows q reply) (is_out_of_order t reply) (has_bad_item who (pending_of t) q reply) (missing_in (held_of t) (kind_of q) reply) k o i m

-- The next reply to a client of a served journal has no fault, where the results that are kept are serial.
pub served-no_fault : (K : Keeping) (r : Rules) (h : List Entry) (L : Trace) (served : IsServed K r h L) (owns : OwnsSessions h L) (s : ℕ) (reply : Reply) → length r.world.values ≡ r.world.shape.objects →
    All (λ (v : List ℤ). length v ≡ r.world.shape.attrs) r.world.values → r.bound ≤ 32 → r.positions ≤ most_positions → length (accepted h) < r.positions → ResultsAreSerial r.world.values (actions_of h) (K.kept h) →
    current_session (reverse L.events) ≡ Some s → KeepsLimits r h L s →
    slice_get (replies_in (accepted h) h s) (length (got (reverse L.events) s)) ≡ Some reply → first_fault_of_reply (identity_of r.world.shape L) (reverse L.events) reply ≡ None
served-no_fault K r h L served owns s reply count shaped bound most room serial current limits is =
    let whole : List Event = reverse L.events in
    let who : Identity = identity_of r.world.shape L in
    let x = entered (accepted h) h s (length (got whole s)) reply is in
    let awaited : Awaited = record {
      owner = record { keeping = K; rules = r; journal = h; trace = L; served = served; owns = owns };
      session = s;
      current = current;
      limits = limits;
      entry = x.entry;
      before = x.before;
      earlier = x.earlier;
      mine = x.of_it;
      next = sym x.place;
    } in
    let truthful : Truthful = record { awaited = awaited; count = count; shaped = shaped; bound = bound; room = room; serial = serial } in
    let q = asks awaited in
    answered-well who whole s q.0 reply current q.1.0
    (same-allows q.0 x.entry.request q.1.1 reply
    ∙ ap (allows x.entry.request) x.replied ∙ allowed truthful x.entry.request refl)
    (ap (is_out_of_order whole) x.replied ∙ ordered awaited (omega (arith, most, room)) x.entry.reply refl)
    (same-items who (pending_of whole) q.0 x.entry.request q.1.1 reply
    ∙ ap (has_bad_item who (pending_of whole) x.entry.request) x.replied
    ∙ no-bad_item truthful x.entry.reply refl)
    (ap (λ k. missing_in (held_of whole) k reply) (same-kind q.0 x.entry.request q.1.1)
    ∙ ap (missing_in (held_of whole) (kind_of x.entry.request)) x.replied ∙ complete awaited count serial)

pub no-fault : (r : Rules) (h : List Entry) (Ls : List Trace) (i : ℕ) (L : Trace) (s : ℕ) (reply : Reply) → length r.world.values ≡ r.world.shape.objects →
    All (λ (v : List ℤ). length v ≡ r.world.shape.attrs) r.world.values → r.bound ≤ 32 → r.positions ≤ most_positions → length (accepted h) < r.positions → Legal r h → Fits r.world.shape h Ls →
    slice_get Ls i ≡ Some L → current_session (reverse L.events) ≡ Some s → KeepsLimits r h L s →
    slice_get (replies_in (accepted h) h s) (length (got (reverse L.events) s)) ≡ Some reply → first_fault_of_reply (identity_of r.world.shape L) (reverse L.events) reply ≡ None
no-fault r h Ls i L s reply count shaped bound most room legal fits member =
    served-no_fault plain r h L (plain-served r h Ls legal fits i L member) (owns-own r.world.shape h Ls fits i L member) s reply count shaped bound most room (noted-serial r h Ls count legal fits)

-- In scenarios a client keeps the limits by its counts.
pub scenario-no_fault : (world : World) (bound : ℕ) (reach : Option ℕ) (sessions : ℕ) (h : List Entry) (Ls : List Trace) (i : ℕ) (L : Trace) (s : ℕ) (reply : Reply) →
    length world.values ≡ world.shape.objects → All (λ (v : List ℤ). length v ≡ world.shape.attrs) world.values → bound ≤ 32 → length (accepted h) < most_positions →
    Legal (scenario_rules world bound reach sessions) h → Fits world.shape h Ls → slice_get Ls i ≡ Some L → Proper world.shape L →
    current_session (reverse L.events) ≡ Some s → length (requests_of L s) ≤ 1024 →
    slice_get (replies_in (accepted h) h s) (length (got (reverse L.events) s)) ≡ Some reply → first_fault_of_reply (identity_of world.shape L) (reverse L.events) reply ≡ None
scenario-no_fault world bound reach sessions h Ls i L s reply count shaped few room legal fits member proper current asks is =
    no-fault (scenario_rules world bound reach sessions) h Ls i L s reply count shaped few (omega arith) room legal fits member current
    (scenario-keeps world bound reach sessions world.shape h L s proper asks) is

-- What an honest client asks: a Poll is one, and a reply is reported by a Done.
use Rattle.std.proofs.Common.{◌≡◌, ℕ, Bool, true, false, nat_eq, List, [], ◌∷◌, ◌++◌, map, Option, Some, None, refl, sym, ap, eq-eqb}
use Rattle.std.specs.Prelude.{if◌then◌else◌, not, IfSome, IfNone}
use Rattle.std.specs.Option.{option_to_list}
use Rattle.sv_versions.specs.Held.{Held}
use Rattle.sv_wire.specs.declared.message.Item.{Item}
use Rattle.sv_wire.specs.declared.message.Request.{Request}
use Rattle.sv_wire.specs.declared.message.Request.TheVariants as requests
use Rattle.sv_wire.specs.declared.message.Reply.{Reply}
use Rattle.sv_wire.specs.declared.message.Reply.TheVariants as replies
use Rattle.sv_client.specs.Answers.{got_now}
use Rattle.sv_client.specs.Seen.{latest_session, newly_asked}
use Rattle.sv_client.specs.Kinds.{allows_awaited, asks_for_done, kind_of}
use Rattle.sv_client.specs.Taking.{Fault, Identity, Unasked, WrongKind, fault_after, first_fault_of_reply, outstanding}
use Rattle.sv_client.specs.Traces.{done_for, head_held, held_of, item_held, results_of, current_session, is_session}
use Rattle.sv_client.specs.declared.kinds.Awaited.{Awaited}
use Rattle.sv_client.specs.declared.kinds.Awaited.TheVariants as kinds
use Rattle.sv_client.specs.declared.trace.Event.{Event}
use Rattle.sv_client.specs.declared.trace.Event.TheVariants as events
use Rattle.sv_office.specs.Stewarding.{Reports, is_refused, reported_at}

no_more : {A : Type 0} {x : A} → x ∷ [] ≡ [] → ⊥
no_more e = cc

alone : {A : Type 0} {x y : A} → x ∷ [] ≡ y ∷ [] → x ≡ y
alone e = cc

results_positions : (held : List Held) (items : List Item) → reported_at (results_of held items) ≡ map (λ (i : Item). i.pos) items
results_positions held [] = refl
results_positions held (item ∷ items) = ap (λ (ps : List ℕ). item.pos ∷ ps) (results_positions (held ++ item_held held item) items)

pub got_done : (who : Identity) (t : List Event) (reply : Reply) (request : Request) → request ∷ [] ≡ newly_asked who t (got_now t reply) → Reports reply request
got_done who t reply request e = by_kind (nat_eq (latest_session t) (latest_session (got_now t reply ∷ t))) reply e
  where
    by_kind : (b : Bool) (r : Reply) → request ∷ [] ≡ (if b then done_for (held_of t) r else []) → Reports r request
    by_kind false r e = absurd (no_more e)
    by_kind true (replies.Relay seq commit head items) e = record {
      some = refl;
      results = _;
      done = alone e;
      each = results_positions (held_of t ++ head_held commit head) items;
    }
    by_kind true (replies.Seen last commit head []) e = absurd (no_more e)
    by_kind true (replies.Seen last commit head (item ∷ items)) e = record {
      some = refl;
      results = _;
      done = alone e;
      each = results_positions (held_of t ++ head_held commit head) (item ∷ items);
    }
    by_kind true (replies.Welcome commit head) e = absurd (no_more e)
    by_kind true (replies.Dropped seq chain far) e = absurd (no_more e)
    by_kind true (replies.Denied seq object) e = absurd (no_more e)
    by_kind true (replies.Settled seq pos) e = absurd (no_more e)
    by_kind true (replies.Noted commit) e = absurd (no_more e)
    by_kind true replies.Idle e = absurd (no_more e)
    by_kind true (replies.Refused code detail) e = absurd (no_more e)
    by_kind true replies.Bye e = absurd (no_more e)

pub polled : (who : Identity) (t : List Event) (request : Request) → request ∷ [] ≡ newly_asked who t events.Poll → request ≡ requests.Poll
polled who t request e = by_kind (is_session (current_session t) (latest_session (events.Poll ∷ t))) e
  where
    by_kind : (b : Bool) → request ∷ [] ≡ (if b then requests.Poll ∷ [] else []) → request ≡ requests.Poll
    by_kind false e = absurd (no_more e)
    by_kind true e = alone e

-- Where no Done is asked, there was nothing to report.
got_none : (who : Identity) (t : List Event) (reply : Reply) → [] ≡ newly_asked who t (got_now t reply) → asks_for_done reply ≡ false
got_none who t reply e =
    by_kind (nat_eq (latest_session t) (latest_session (got_now t reply ∷ t))) (eq-eqb (latest_session t) (latest_session (got_now t reply ∷ t)) refl) reply e
  where
    by_kind : (b : Bool) → b ≡ true → (r : Reply) → [] ≡ (if b then done_for (held_of t) r else []) → asks_for_done r ≡ false
    by_kind false is r e = let clash : false ≡ true = is in cc
    by_kind true is (replies.Relay seq commit head items) e = absurd (no_more (sym e))
    by_kind true is (replies.Seen last commit head []) e = refl
    by_kind true is (replies.Seen last commit head (item ∷ items)) e = absurd (no_more (sym e))
    by_kind true is (replies.Welcome commit head) e = refl
    by_kind true is (replies.Dropped seq chain far) e = refl
    by_kind true is (replies.Denied seq object) e = refl
    by_kind true is (replies.Settled seq pos) e = refl
    by_kind true is (replies.Noted commit) e = refl
    by_kind true is replies.Idle e = refl
    by_kind true is (replies.Refused code detail) e = refl
    by_kind true is replies.Bye e = refl

-- What is asked by a reply.
pub asked_done : (who : Identity) (t : List Event) (reply : Reply) (asks : Option Request) → option_to_list asks ≡ newly_asked who t (got_now t reply) → IfSome asks (Reports reply)
asked_done who t reply None e = tt
asked_done who t reply (Some request) e = got_done who t reply request e

pub asked_none : (who : Identity) (t : List Event) (reply : Reply) (asks : Option Request) → option_to_list asks ≡ newly_asked who t (got_now t reply)
    → IfNone asks (asks_for_done reply ≡ false)
asked_none who t reply None e = got_none who t reply e
asked_none who t reply (Some request) e = tt

no_refusal : (kind : Option Awaited) (code detail : ℕ) → allows_awaited kind (replies.Refused code detail) ≡ false
no_refusal None code detail = refl
no_refusal (Some kinds.Join) code detail = refl
no_refusal (Some kinds.Submit) code detail = refl
no_refusal (Some kinds.Done) code detail = refl
no_refusal (Some kinds.Poll) code detail = refl
no_refusal (Some (kinds.Observe objects)) code detail = refl
no_refusal (Some kinds.Leave) code detail = refl

wrong : (b : Bool) (rest : Option Fault) → b ≡ false → (if not b then Some WrongKind else rest) ≡ None → ⊥
wrong true rest off e = let clash : true ≡ false = off in cc
wrong false rest off e = cc

refused_fault : (who : Identity) (t : List Event) (code detail : ℕ) (asked : List Request) → fault_after who t asked (replies.Refused code detail) ≡ None → ⊥
refused_fault who t code detail [] e = let clash : Some Unasked ≡ None = e in cc
refused_fault who t code detail (request ∷ more) e = wrong (allows_awaited (kind_of request) (replies.Refused code detail)) _ (no_refusal (kind_of request) code detail) e

-- A refusal is not taken.
pub taken_fine : (who : Identity) (t : List Event) (reply : Reply) → first_fault_of_reply who t reply ≡ None → is_refused reply ≡ false
taken_fine who t (replies.Refused code detail) e = absurd (refused_fault who t code detail (outstanding who t) e)
taken_fine who t (replies.Relay seq commit head items) e = refl
taken_fine who t (replies.Seen last commit head items) e = refl
taken_fine who t (replies.Welcome commit head) e = refl
taken_fine who t (replies.Dropped seq chain far) e = refl
taken_fine who t (replies.Denied seq object) e = refl
taken_fine who t (replies.Settled seq pos) e = refl
taken_fine who t (replies.Noted commit) e = refl
taken_fine who t replies.Idle e = refl
taken_fine who t replies.Bye e = refl

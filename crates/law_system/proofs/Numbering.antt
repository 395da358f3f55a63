-- A Submit that is answered next has the number of the front pending action, and is new or has an outcome that is kept.
use Rattle.std.proofs.Common.{◌≡◌, ℕ, zero, suc, ◌+◌, ◌<◌, ◌≤◌, nat_le, ◌⊎◌, inl, inr, List, [], ◌∷◌, reverse, length, Some, None, slice_get, refl, ap, ◌∙◌, arith, le-leb}
use Rattle.std.proofs.lemmas.Bool.{cond-true, cases_lt}
use Rattle.sv_world.specs.declared.action.Action.{Action}
use Rattle.sv_wire.specs.declared.message.Request.TheVariants as requests
use Rattle.sv_journal.specs.History.{Outcome, outcomes_of, next_seq}
use Rattle.sv_journal.specs.Sessions.{kept_outcome, kept_count, outcome_at}
use Rattle.sv_client.specs.declared.trace.Event.{Event}
use Rattle.sv_client.specs.Traces.{makes, pending_of}
use Rattle.sv_client.specs.Taking.{Identity}
use Rattle.sv_client.specs.Proper.{identity_of}
use Rattle.law_system.proofs.Awaited.{Awaited}
use Rattle.law_system.proofs.Histories.{earlier-rest}
use Rattle.law_system.proofs.Asked.{all}
use Rattle.law_system.proofs.Pendings.{Numbered, keys, settled, counted}
use Rattle.law_system.proofs.Opened.{asks-other}
use Rattle.law_system.proofs.Before.{got-at}
use Rattle.law_system.proofs.Window.{next-front, settled-next, outcomes-made}
use Rattle.law_system.proofs.Places.{at_place}

get-none : {X : Type 0} (xs : List X) (i : ℕ) → length xs ≤ i → slice_get xs i ≡ None
get-none [] i l = refl
get-none (x ∷ xs) zero l = absurd (omega arith)
get-none (x ∷ xs) (suc i) l = get-none xs i (omega arith)

module _ (awaited : Awaited) where
  open awaited.owner use {rules as r, journal as H, trace as L}
  open awaited.owner.served use {fits as this_one}
  open awaited use {owner, session as s, current, entry as e, before as g, earlier as b}

  abbrev whole : List Event
  whole = reverse L.events

  abbrev who : Identity
  who = identity_of r.world.shape L

  abbrev k : ℕ
  k = L.client.0

  -- A Submit that is answered next is that of the front pending action; its outcome is kept, or it has the next number.
  pub record IsNumberedWell (n : ℕ) (a : Action) : Type 0 where
    pub rest : List Numbered
    pub front : keys (pending_of whole) ≡ (n, a) ∷ rest
    pub outcome : ((o : Outcome) × (kept_outcome g k n ≡ Some o)) ⊎ ((n ≡ next_seq g k) × (kept_outcome g k n ≡ None))

  pub numbered-well : (n : ℕ) (a : Action) → e.request ≡ requests.Submit n a → IsNumberedWell n a
  numbered-well n a is =
      let front = next-front who whole this_one.trace.events s n a current (asks-other awaited (requests.Submit n a) is refl) in
      let number : n ≡ suc (settled whole) = front.1.1 in
      let low : settled whole < next_seq g k = settled-next owner g (earlier-rest g e H b) (got-at awaited) whole all in
      let c = counted who whole this_one.trace.events in
      let few' : length (keys (pending_of whole)) ≤ 8 = c.few in
      let within : length (keys (pending_of whole)) ≤ makes whole = c.within in
      let most : length (outcomes_of g k) ≤ makes whole = outcomes-made owner g (earlier-rest g e H b) (got-at awaited) in
      let kept : kept_outcome g k n ≡ slice_get (outcomes_of g k) (settled whole) =
      cond-true (nat_le (next_seq g k) (n + kept_count)) (outcome_at (outcomes_of g k) n) None (le-leb (next_seq g k) (n + kept_count) (omega arith)) ∙ ap (outcome_at (outcomes_of g k)) number in
      record {
        rest = front.0;
        front = front.1.0;
        outcome = elim (cases_lt (settled whole) (length (outcomes_of g k))) [
          | inl l ↦ (let f = at_place (outcomes_of g k) (settled whole) l in inl (f.0, kept ∙ f.1))
          | inr l ↦ inr (omega arith, kept ∙ get-none (outcomes_of g k) (settled whole) l)
        ];
      }

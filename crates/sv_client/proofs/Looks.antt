-- What a client's tests of a reply say of its first fault.
use Rattle.std.proofs.Common.{◌≡◌, ℕ, Bool, true, false, List, slice_get, Some, None, sym, ap, ◌∙◌}
use Rattle.sv_versions.specs.Held.{Store}
use Rattle.sv_pending.specs.Made.{PendingList}
use Rattle.sv_wire.specs.declared.message.Reply.{Reply}
use Rattle.sv_client.specs.declared.fault.TakeFault.TheVariants as faults
use Rattle.sv_client.specs.declared.kinds.Awaited.{Awaited}
use Rattle.sv_client.specs.declared.trace.Event.{Event}
use Rattle.sv_client.specs.Traces.{pending_of}
use Rattle.sv_client.specs.Taking.{Identity, outstanding, allows, is_disordered, is_out_of_order, is_unfit, has_bad_item}
use Rattle.sv_client.specs.Kinds.{allows_kind}
use Rattle.sv_client.specs.Invariant.{IsClientOf}
use Rattle.sv_client.specs.Answers.{IsTakeFault, IsFine}
use Rattle.sv_client.proofs.Looking.{Oldest, oldest, none_asked, allows_same, unfit_same, unasked, wrong_kind, bad_order, bad_item}

module _ (who : Identity) (t : List Event) (store : Store) (pending : PendingList) (ks : List Awaited) (sessions made commit : ℕ) (joined : Bool) (is : IsClientOf who t store pending ks sessions made commit joined) (reply : Reply) where
  pub unasked_by : slice_get ks 0 ≡ None → IsTakeFault who t reply faults.Unasked
  unasked_by e = unasked who t reply (none_asked ks (outstanding who t) is.awaited.same e)

  front : (k : Awaited) → slice_get ks 0 ≡ Some k → Oldest (outstanding who t) k
  front k e = oldest ks (outstanding who t) k is.awaited.same e

  allowed : (k : Awaited) (e : slice_get ks 0 ≡ Some k) (b : Bool) → b ≡ allows_kind k reply → allows (front k e).request reply ≡ b
  allowed k e b h = sym (h ∙ allows_same (front k e).request k reply (front k e).kind)

  ordered : (b : Bool) → b ≡ is_disordered commit reply → is_out_of_order t reply ≡ b
  ordered b h = sym (h ∙ ap (λ (n : ℕ). is_disordered n reply) is.counts.commit_is)

  unfit : (k : Awaited) (e : slice_get ks 0 ≡ Some k) (b : Bool) → b ≡ is_unfit who.client who.shape pending.items (Some k) reply → has_bad_item who (pending_of t) (front k e).request reply ≡ b
  unfit k e b h =
      sym (h ∙ ap (λ (p : PendingList). is_unfit who.client who.shape p.items (Some k) reply) is.actions ∙ unfit_same who (pending_of t) (front k e).request k reply (front k e).kind)

  pub wrong_by : (k : Awaited) → slice_get ks 0 ≡ Some k → false ≡ allows_kind k reply → IsTakeFault who t reply faults.WrongKind
  wrong_by k e a = wrong_kind who t reply (front k e).request (front k e).rest (front k e).is (allowed k e false a)

  pub order_by : (k : Awaited) → slice_get ks 0 ≡ Some k → true ≡ allows_kind k reply → true ≡ is_disordered commit reply → IsTakeFault who t reply faults.BadOrder
  order_by k e a o = bad_order who t reply (front k e).request (front k e).rest (front k e).is (allowed k e true a) (ordered true o)

  pub item_by : (k : Awaited) → slice_get ks 0 ≡ Some k → true ≡ allows_kind k reply → false ≡ is_disordered commit reply → true ≡ is_unfit who.client who.shape pending.items (Some k) reply → IsTakeFault who t reply faults.BadItem
  item_by k e a o u = bad_item who t reply (front k e).request (front k e).rest (front k e).is (allowed k e true a) (ordered false o) (unfit k e true u)

  pub fine_by : (k : Awaited) → slice_get ks 0 ≡ Some k → true ≡ allows_kind k reply → false ≡ is_disordered commit reply → false ≡ is_unfit who.client who.shape pending.items (Some k) reply → IsFine who t reply
  fine_by k e a o u = record {
    request = (front k e).request;
    rest = (front k e).rest;
    asked = (front k e).is;
    allowed = allowed k e true a;
    ordered = ordered false o;
    good = unfit k e false u;
  }

-- The actions that a trace asks for are those that its client made.
use Rattle.std.proofs.Common.{ℕ, suc, ◌^◌, ◌<◌, Bool, true, false, cond, eqb, List, [], ◌∷◌, map, sym, subst}
use Rattle.std.specs.List.{AllByRecursion}
use Rattle.std.proofs.lemmas.List.{map-append}
use Rattle.sv_world.specs.declared.action.Action.{Action}
use Rattle.sv_world.specs.declared.world.ClientId.{ClientId}
use Rattle.sv_world.specs.declared.world.ObjectId.{ObjectId}
use Rattle.sv_versions.specs.Held.{Held}
use Rattle.sv_pending.specs.Pending.{PendingAction, kept_of}
use Rattle.sv_wire.specs.declared.message.Request.{Request}
use Rattle.sv_wire.specs.declared.message.Request.TheVariants as requests
use Rattle.sv_wire.specs.declared.message.Reply.{Reply}
use Rattle.sv_wire.specs.declared.message.Reply.TheVariants as replies
use Rattle.sv_client.specs.declared.trace.Event.{Event}
use Rattle.sv_client.specs.declared.trace.Event.TheVariants as events
use Rattle.sv_client.specs.Traces.{joins, makes, current_session, is_session, held_of, with_reply, pending_of, submit_of, done_for, asked_by_event, asked}
use Rattle.law_system.proofs.Pendings.{Numbered, key_of, keys, without_first, settles, keys-with}
use Rattle.law_system.proofs.Every.{each-append, each-if}

module _ (P : Action → Type 0) where
  -- It holds of the action that an event makes; and the time that an observing client would wait is a number of its type.
  abbrev pub Makes : Event → Type 0
  Makes (events.Make a) = P a
  Makes (events.Observe objects wait) = wait < 2 ^ 16
  Makes _ = Unit {0}

  -- It holds of the action of a request, which is one that can be sent.
  abbrev pub Asks : Request → Type 0
  Asks (requests.Submit n a) = P a
  Asks (requests.Observe objects wait) = wait < 2 ^ 16
  Asks requests.Bad = ⊥
  Asks requests.End = ⊥
  Asks _ = Unit {0}

  abbrev KeyHas : Numbered → Type 0
  KeyHas k = P k.1

  fewer : (ks : List Numbered) → AllByRecursion KeyHas ks → AllByRecursion KeyHas (without_first ks)
  fewer [] all = tt
  fewer (k ∷ ks) all = all.1

  settled-or_not : (b : Bool) (ks : List Numbered) → AllByRecursion KeyHas ks → AllByRecursion KeyHas (cond b (without_first ks) ks)
  settled-or_not true ks all = fewer ks all
  settled-or_not false ks all = all

  pending-have : (t : List Event) → AllByRecursion Makes t → AllByRecursion KeyHas (keys (pending_of t))
  pending-have [] all = tt
  pending-have (events.Make a ∷ t) all =
      let last : PendingAction = record { seq = suc (makes t); action = a; kept = kept_of (held_of t) (pending_of t) a } in
      subst (AllByRecursion KeyHas) (sym (map-append key_of (pending_of t) (last ∷ []))) (each-append KeyHas (keys (pending_of t)) (key_of last ∷ []) (pending-have t all.1) (all.0, tt))
  pending-have (events.Got s reply ∷ t) all =
      subst (AllByRecursion KeyHas) (sym (keys-with (held_of t) (with_reply (held_of t) reply) reply (pending_of t))) (settled-or_not (settles reply) (keys (pending_of t)) (pending-have t all.1))
  pending-have (events.Join s ∷ t) all = pending-have t all.1
  pending-have (events.Poll ∷ t) all = pending-have t all.1
  pending-have (events.Observe objects wait ∷ t) all = pending-have t all.1
  pending-have (events.Leave ∷ t) all = pending-have t all.1
  pending-have (events.Cut ∷ t) all = pending-have t all.1
  pending-have (events.Quit ∷ t) all = pending-have t all.1
  pending-have (events.Show objects ∷ t) all = pending-have t all.1

  submits-have : (ps : List PendingAction) → AllByRecursion KeyHas (keys ps) → AllByRecursion Asks (map submit_of ps)
  submits-have [] all = tt
  submits-have (p ∷ ps) all = (all.0, submits-have ps all.1)

  done-have : (held : List Held) (reply : Reply) → AllByRecursion Asks (done_for held reply)
  done-have held (replies.Relay seq commit head items) = (tt, tt)
  done-have held (replies.Welcome commit head) = tt
  done-have held (replies.Dropped seq chain far) = tt
  done-have held (replies.Denied seq object) = tt
  done-have held (replies.Seen last commit head []) = tt
  done-have held (replies.Seen last commit head (item ∷ items)) = (tt, tt)
  done-have held (replies.Settled seq pos) = tt
  done-have held (replies.Noted commit) = tt
  done-have held replies.Idle = tt
  done-have held (replies.Refused code detail) = tt
  done-have held replies.Bye = tt

  by-have : (client : ClientId) (interest : List ObjectId) (t : List Event) (e : Event) (s : ℕ) → Makes e → AllByRecursion Makes t → AllByRecursion Asks (asked_by_event client interest t e s)
  by-have client interest t (events.Join n) s h all =
      each-if Asks (eqb n s) (requests.Join client (suc (joins t)) interest ∷ map submit_of (pending_of t)) (tt, submits-have (pending_of t) (pending-have t all))
  by-have client interest t (events.Make a) s h all = each-if Asks (is_session (current_session t) s) (requests.Submit (suc (makes t)) a ∷ []) (h, tt)
  by-have client interest t events.Poll s h all = each-if Asks (is_session (current_session t) s) (requests.Poll ∷ []) (tt, tt)
  by-have client interest t (events.Observe objects wait) s h all = each-if Asks (is_session (current_session t) s) (requests.Observe objects wait ∷ []) (h, tt)
  by-have client interest t events.Leave s h all = each-if Asks (is_session (current_session t) s) (requests.Leave ∷ []) (tt, tt)
  by-have client interest t (events.Got n reply) s h all = each-if Asks (eqb n s) (done_for (held_of t) reply) (done-have (held_of t) reply)
  by-have client interest t events.Cut s h all = tt
  by-have client interest t events.Quit s h all = tt
  by-have client interest t (events.Show objects) s h all = tt

  -- So it holds of each action that is asked.
  pub asked-have : (client : ClientId) (interest : List ObjectId) (t : List Event) (s : ℕ) → AllByRecursion Makes t → AllByRecursion Asks (asked client interest t s)
  asked-have client interest [] s all = tt
  asked-have client interest (e ∷ t) s all =
      each-append Asks (asked client interest t s) (asked_by_event client interest t e s) (asked-have client interest t s all.1) (by-have client interest t e s all.0 all.1)

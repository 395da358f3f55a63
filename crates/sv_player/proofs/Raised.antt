-- What a client did, where its first session has another number.
use Rattle.std.proofs.Common.{◌≡◌, ℕ, suc, ◌+◌, Bool, ◌||◌, ◌&&◌, nat_lt, ℤ, List, [], ◌∷◌, ◌++◌, length, Option, Some, option_map, refl, sym, ap, ap₂, subst, ◌∙◌}
use Rattle.std.specs.Prelude.{IfSome, if◌then◌else◌}
use Rattle.std.specs.List.{flat_map}
use mathlib.Core.Path.{fun_ext}
use Rattle.std.proofs.lemmas.List.{length-map}
use Rattle.sv_world.specs.Limits.{most_outstanding, most_pending}
use Rattle.sv_world.specs.declared.world.ClientId.{ClientId}
use Rattle.sv_world.specs.declared.world.ObjectId.{ObjectId}
use Rattle.sv_watch.specs.declared.change.Change.{Change}
use Rattle.sv_versions.specs.Held.{Held}
use Rattle.sv_pending.specs.Pending.{PendingAction, view_over}
use Rattle.sv_wire.specs.declared.message.Request.{Request}
use Rattle.sv_wire.specs.declared.message.Reply.{Reply}
use Rattle.sv_wire.specs.declared.message.Reply.TheVariants as replies
use Rattle.sv_link.specs.Ends.{Told}
use Rattle.sv_client.specs.declared.fault.TakeFault.{TakeFault}
use Rattle.sv_client.specs.declared.trace.Event.{Event}
use Rattle.sv_client.specs.declared.trace.Event.TheVariants as events
use Rattle.sv_client.specs.Traces.{view_of}
use Rattle.sv_client.specs.Taking.{Identity, Fault, outstanding}
use Rattle.sv_client.specs.Answers.{IsTakeFault}
use Rattle.sv_client.specs.Seen.{raised, fault_named}
use Rattle.sv_client.proofs.Shifts.{Up, up_held, up_pending, up_current, up_got, up_asked, up_outstanding, up_fault, up_is}
use Rattle.sv_scenario.specs.declared.scenario.Step.{Step}
use Rattle.sv_scenario.specs.declared.scenario.Step.TheVariants as steps
use Rattle.sv_script.specs.Following.{passed_syncs, is_bye}
use Rattle.sv_script.specs.Telling.{same_view, change_of, changes_of}
use Rattle.sv_script.proofs.Shifted.{up_welcomed, up_follows}
use Rattle.sv_player.specs.declared.outcome.ReplyFault.{ReplyFault}
use Rattle.sv_player.specs.declared.outcome.ReplyFault.TheVariants as faults
use Rattle.sv_script.specs.Next.{may_ask, can_do, can_do_first, can_go_on}
use Rattle.sv_player.specs.Awaiting.{IsAwaited, GetsAreAwaited}
use Rattle.sv_player.specs.Carried.{BeginsWithReplies}
use Rattle.sv_player.specs.Stops.{IsBad, IsBadRest, IsShut, is_cut}
use Rattle.sv_player.specs.Played.{has_quit, has_left}
use Rattle.sv_player.specs.Ends.{IsUncut}

bye_leaves : (s : ℕ) (reply : Reply) (t : List Event) → has_left (events.Got s reply ∷ t) ≡ is_bye reply
bye_leaves s (replies.Welcome commit head) t = refl
bye_leaves s (replies.Relay seq commit head items) t = refl
bye_leaves s (replies.Seen last commit head items) t = refl
bye_leaves s (replies.Dropped seq chain far) t = refl
bye_leaves s (replies.Denied seq object) t = refl
bye_leaves s (replies.Settled seq pos) t = refl
bye_leaves s (replies.Noted commit) t = refl
bye_leaves s replies.Idle t = refl
bye_leaves s (replies.Refused code detail) t = refl
bye_leaves s replies.Bye t = refl

-- one change of a view, if there is one
abbrev change_at : ClientId → ObjectId → ℕ → Option (List ℤ) → Option (List ℤ) → List Change
change_at client object n old new = if same_view old new then [] else record { client = client; object = object; event = n; old = old; new = new } ∷ []

module _ (first : ℕ) where
  pub up_cut : (t : List Event) (k : ℕ) → is_cut (Up first t) (k + first) ≡ is_cut t k
  up_cut [] k = refl
  up_cut (events.Join s ∷ t) k = up_cut t k
  up_cut (events.Make a ∷ t) k = up_cut t k
  up_cut (events.Poll ∷ t) k = up_cut t k
  up_cut (events.Observe os wait ∷ t) k = up_cut t k
  up_cut (events.Leave ∷ t) k = up_cut t k
  up_cut (events.Got s reply ∷ t) k = up_cut t k
  up_cut (events.Cut ∷ t) k = ap₂ (λ (a b : Bool). a || b) (up_is first t k) (up_cut t k)
  up_cut (events.Quit ∷ t) k = ap₂ (λ (a b : Bool). a || b) (up_is first t k) (up_cut t k)
  up_cut (events.Show objects ∷ t) k = up_cut t k

  pub up_quit : (t : List Event) → has_quit (Up first t) ≡ has_quit t
  up_quit [] = refl
  up_quit (events.Join s ∷ t) = refl
  up_quit (events.Make a ∷ t) = refl
  up_quit (events.Poll ∷ t) = refl
  up_quit (events.Observe os wait ∷ t) = refl
  up_quit (events.Leave ∷ t) = refl
  up_quit (events.Got s reply ∷ t) = refl
  up_quit (events.Cut ∷ t) = refl
  up_quit (events.Quit ∷ t) = refl
  up_quit (events.Show objects ∷ t) = refl

  pub up_left : (t : List Event) → has_left (Up first t) ≡ has_left t
  up_left [] = refl
  up_left (events.Join s ∷ t) = refl
  up_left (events.Make a ∷ t) = refl
  up_left (events.Poll ∷ t) = refl
  up_left (events.Observe os wait ∷ t) = refl
  up_left (events.Leave ∷ t) = refl
  up_left (events.Got s reply ∷ t) = bye_leaves (s + first) reply (Up first t) ∙ sym (bye_leaves s reply t)
  up_left (events.Cut ∷ t) = refl
  up_left (events.Quit ∷ t) = refl
  up_left (events.Show objects ∷ t) = refl

  -- ---- Awaiting

  up_ask : (who : Identity) (t : List Event) → may_ask who (Up first t) ≡ may_ask who t
  up_ask who t = ap (λ (os : List Request). nat_lt (length os) most_outstanding) (up_outstanding first who t)

  up_do : (who : Identity) (t : List Event) (step : Step) → can_do who (Up first t) step ≡ can_do who t step
  up_do who t (steps.Act a) = ap₂ (λ (ps : List PendingAction) (b : Bool). nat_lt (length ps) most_pending && b) (up_pending first t) (up_ask who t)
  up_do who t steps.Poll = up_ask who t
  up_do who t (steps.Observe os) = up_ask who t
  up_do who t steps.Sync = refl
  up_do who t (steps.Show objects) = refl
  up_do who t steps.Cut = refl
  up_do who t steps.Quit = refl

  up_first : (who : Identity) (t : List Event) (ss : List Step) → can_do_first who (Up first t) ss ≡ can_do_first who t ss
  up_first who t [] = refl
  up_first who t (step ∷ ss) = up_do who t step

  up_go_on : (who : Identity) (t : List Event) (left : List Step) → can_go_on who (Up first t) left ≡ can_go_on who t left
  up_go_on who t left =
      ap₂ (λ (a b : Bool). a && b) (up_welcomed first t)
      (up_first who t (passed_syncs (outstanding who (Up first t)) left) ∙ ap (λ (os : List Request). can_do_first who t (passed_syncs os left)) (up_outstanding first who t))

  up_time : (who : Identity) (t : List Event) (left : List Step) (e : Event) → IsAwaited who t left e → IsAwaited who (Up first t) left (raised first e)
  up_time who t left (events.Join s) a = tt
  up_time who t left (events.Make action) a = tt
  up_time who t left events.Poll a = tt
  up_time who t left (events.Observe os wait) a = tt
  up_time who t left events.Leave a = tt
  up_time who t left (events.Got s reply) a = up_go_on who t left ∙ a
  up_time who t left events.Cut a = tt
  up_time who t left events.Quit a = tt
  up_time who t left (events.Show objects) a = tt

  pub up_awaited : (who : Identity) (script : List Step) (t : List Event) → GetsAreAwaited who script t → GetsAreAwaited who script (Up first t)
  up_awaited who script [] g = tt
  up_awaited who script (e ∷ t) g = (
    record { left = g.0.left; follows = up_follows first who script t g.0.left g.0.follows; awaited = up_time who t g.0.left e g.0.awaited },
    up_awaited who script t g.1,
  )

  -- ---- Telling

  up_view : (t : List Event) (x : ℕ) → view_of (Up first t) x ≡ view_of t x
  up_view t x = ap₂ (λ (hs : List Held) (ps : List PendingAction). view_over hs ps x) (up_held first t) (up_pending first t)

  up_change : (client : ClientId) (t : List Event) (e : Event) (object : ObjectId) → change_of client (Up first t) (raised first e) object ≡ change_of client t e object
  up_change client t e object =
      ap (λ (n : ℕ). change_at client object (suc n) (view_of (Up first t) object.0) (view_of (Up first (e ∷ t)) object.0)) (length-map t (raised first))
      ∙ ap₂ (λ (old new : Option (List ℤ)). change_at client object (suc (length t)) old new) (up_view t object.0) (up_view (e ∷ t) object.0)

  pub up_changes : (client : ClientId) (interest : List ObjectId) (t : List Event) → changes_of client interest (Up first t) ≡ changes_of client interest t
  up_changes client interest [] = refl
  up_changes client interest (e ∷ t) =
      ap₂ (λ (cs ds : List Change). cs ++ ds) (up_changes client interest t) (ap (λ (f : ObjectId → List Change). flat_map f interest) (fun_ext (up_change client t e)))

  -- ---- Why it stopped

  pub up_open : (t : List Event) (k : ℕ) → IsUncut t k → IsUncut (Up first t) (k + first)
  up_open t k o = record { current = up_current first t ∙ ap (option_map (λ (n : ℕ). n + first)) o.current; open_is = up_cut t k ∙ o.open_is }

  pub up_shut : (who : Identity) (t : List Event) (k : ℕ) (end : Told) → IsShut who t k end → IsShut who (Up first t) (k + first) end
  up_shut who t k end s =
      record {
        awaited = rw (up_got first t k, up_asked first who t k) s.awaited;
        ended = s.ended;
        rest = s.rest;
        received = subst (λ (rs : List Reply). BeginsWithReplies end.received rs s.rest) (sym (up_got first t k)) s.received;
        none = s.none;
      }

  up_take : (who : Identity) (t : List Event) (reply : Reply) (fault : TakeFault) → IsTakeFault who t reply fault → IsTakeFault who (Up first t) reply fault
  up_take who t reply fault h = subst (λ (o : Option Fault). IfSome (fault_named fault) (λ f. o ≡ Some f)) (sym (up_fault first who t reply)) h

  up_bad_rest : (who : Identity) (t : List Event) (rest payload : List ℕ) (fault : ReplyFault) → IsBadRest who t rest payload fault → IsBadRest who (Up first t) rest payload fault
  up_bad_rest who t rest payload (faults.Take fault) b =
      (b.0, record { reply = b.1.reply; read = b.1.read; fault_is = up_take who t b.1.reply fault b.1.fault_is; some = b.1.some })
  up_bad_rest who t rest payload (faults.Wire fault) b = b
  up_bad_rest who t rest payload (faults.TooLong n) b = b

  pub up_bad : (who : Identity) (t : List Event) (k : ℕ) (end : Told) (payload : List ℕ) (fault : ReplyFault) → IsBad who t k end payload fault → IsBad who (Up first t) (k + first) end payload fault
  up_bad who t k end payload fault b =
      record {
        rest = b.rest;
        received = subst (λ (rs : List Reply). BeginsWithReplies end.received rs b.rest) (sym (up_got first t k)) b.received;
        bad = up_bad_rest who t b.rest payload fault b.bad;
      }

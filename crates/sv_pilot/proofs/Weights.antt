-- How many replies may still come.
use Rattle.std.proofs.Common.{◌≡◌, ℕ, ◌+◌, ◌<◌, ◌≤◌, true, List, [], ◌∷◌, ◌++◌, drop, None, refl, sym, subst, zero-add, arith}
use Rattle.sv_versions.specs.Held.{Held}
use Rattle.sv_wire.specs.declared.message.Reply.{Reply}
use Rattle.sv_wire.specs.declared.message.Reply.TheVariants as replies
use Rattle.sv_wire.specs.declared.message.Request.{Request}
use Rattle.sv_wire.specs.declared.message.Request.TheVariants as requests
use Rattle.sv_client.specs.declared.trace.Event.{Event}
use Rattle.sv_client.specs.declared.trace.Event.TheVariants as events
use Rattle.sv_client.specs.Traces.{done_for, held_of}
use Rattle.sv_client.specs.Taking.{Identity, outstanding, allows, fault_after}
use Rattle.sv_client.specs.Proper.{AreInTurn, MayGet}
use Rattle.sv_client.proofs.Faultless.{kind-of}
use Rattle.sv_client.proofs.Outstanding.{got_turn}
use Rattle.sv_pilot.specs.Doings.{weight}

weight-append : (rs ss : List Request) → weight (rs ++ ss) ≡ weight rs + weight ss
weight-append [] ss = sym (zero-add (weight ss))
weight-append (requests.Join c l i ∷ rs) ss = let e = weight-append rs ss in omega (arith, e)
weight-append (requests.Submit n a ∷ rs) ss = let e = weight-append rs ss in omega (arith, e)
weight-append (requests.Done ds ∷ rs) ss = let e = weight-append rs ss in omega (arith, e)
weight-append (requests.Poll ∷ rs) ss = let e = weight-append rs ss in omega (arith, e)
weight-append (requests.Observe os w ∷ rs) ss = let e = weight-append rs ss in omega (arith, e)
weight-append (requests.Leave ∷ rs) ss = let e = weight-append rs ss in omega (arith, e)
weight-append (requests.Bad ∷ rs) ss = let e = weight-append rs ss in omega (arith, e)
weight-append (requests.End ∷ rs) ss = let e = weight-append rs ss in omega (arith, e)

done_light : (held : List Held) (reply : Reply) → weight (done_for held reply) ≤ 1
done_light held (replies.Welcome c h) = omega arith
done_light held (replies.Relay n c h is) = omega arith
done_light held (replies.Seen l c h []) = omega arith
done_light held (replies.Seen l c h (i ∷ is)) = omega arith
done_light held (replies.Dropped n c f) = omega arith
done_light held (replies.Denied n o) = omega arith
done_light held (replies.Settled n p) = omega arith
done_light held (replies.Noted c) = omega arith
done_light held replies.Idle = omega arith
done_light held (replies.Refused c d) = omega arith
done_light held replies.Bye = omega arith

none_after_done : (held : List Held) (reply : Reply) (ds : _) → allows (requests.Done ds) reply ≡ true → done_for held reply ≡ []
none_after_done held (replies.Welcome c h) ds e = cc
none_after_done held (replies.Relay n c h is) ds e = cc
none_after_done held (replies.Seen l c h is) ds e = cc
none_after_done held (replies.Dropped n c f) ds e = cc
none_after_done held (replies.Denied n o) ds e = cc
none_after_done held (replies.Settled n p) ds e = cc
none_after_done held (replies.Noted c) ds e = refl
none_after_done held replies.Idle ds e = cc
none_after_done held (replies.Refused c d) ds e = cc
none_after_done held replies.Bye ds e = cc

-- A reply takes more off than its Done puts there.
answered : (held : List Held) (reply : Reply) (r : Request) (rs : List Request) → allows r reply ≡ true → weight (rs ++ done_for held reply) < weight (r ∷ rs)
answered held reply (requests.Done ds) rs e = rw (none_after_done held reply ds e, weight-append rs []) (omega arith)
answered held reply (requests.Join c l i) rs e = let light = done_light held reply in rw (weight-append rs (done_for held reply)) (omega (arith, light))
answered held reply (requests.Submit n a) rs e = let light = done_light held reply in rw (weight-append rs (done_for held reply)) (omega (arith, light))
answered held reply requests.Poll rs e = let light = done_light held reply in rw (weight-append rs (done_for held reply)) (omega (arith, light))
answered held reply (requests.Observe os w) rs e = let light = done_light held reply in rw (weight-append rs (done_for held reply)) (omega (arith, light))
answered held reply requests.Leave rs e = let light = done_light held reply in rw (weight-append rs (done_for held reply)) (omega (arith, light))
answered held reply requests.Bad rs e = cc
answered held reply requests.End rs e = cc

pub lighter : (who : Identity) (t : List Event) (s : ℕ) (reply : Reply) → AreInTurn who 0 t → MayGet who t s reply → weight (outstanding who (events.Got s reply ∷ t)) < weight (outstanding who t)
lighter who t s reply p m = subst (λ (rs : List Request). weight rs < weight (outstanding who t)) (sym (got_turn who 0 t s reply p m)) (go (outstanding who t) m.taken)
  where
    go : (os : List Request) → fault_after who t os reply ≡ None → weight (drop 1 os ++ done_for (held_of t) reply) < weight os
    go [] e = cc
    go (r ∷ rs) e = answered (held_of t) reply r rs (kind-of (allows r reply) _ e)

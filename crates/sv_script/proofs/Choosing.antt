-- What a client's next step rests on.
use Rattle.std.proofs.Common.{◌≡◌, ◌≢◌, ◌⊎◌, inl, inr, ◌<◌, ◌≤◌, Bool, true, false, ◌&&◌, nat_lt, List, [], ◌∷◌, length, refl, sym, ap, ◌∙◌, arith}
use Rattle.std.proofs.lemmas.Bool.{ltb-true, ltb-false}
use Rattle.sv_wire.specs.declared.message.Request.{Request}
use Rattle.sv_world.specs.declared.action.Action.{Action}
use Rattle.sv_client.specs.declared.trace.Event.{Event}
use Rattle.sv_client.specs.Traces.{pending_of}
use Rattle.sv_client.specs.Taking.{Identity, outstanding}
use Rattle.sv_scenario.specs.declared.scenario.Step.{Step}
use Rattle.sv_scenario.specs.declared.scenario.Step.TheVariants as steps
use Rattle.sv_script.specs.Following.{after_syncs, passed_syncs, unsynced}
use Rattle.sv_script.specs.Next.{may_ask, can_do, can_do_first}

both_true : (a b : Bool) → (a && b) ≡ true → (a ≡ true) × (b ≡ true)
both_true true b e = (refl, e)
both_true false b e = cc

one_false : (a b : Bool) → (a && b) ≡ false → (a ≡ false) ⊎ (b ≡ false)
one_false true b e = inr e
one_false false b e = inl refl

some_length : (os : List Request) → os ≢ [] → 0 < length os
some_length [] some = absurd (some refl)
some_length (o ∷ os) some = omega arith

none_synced : (ss rest : List Step) → after_syncs ss ≡ steps.Sync ∷ rest → ⊥
none_synced [] rest e = cc
none_synced (steps.Act action ∷ ss) rest e = cc
none_synced (steps.Poll ∷ ss) rest e = cc
none_synced (steps.Observe os ∷ ss) rest e = cc
none_synced (steps.Sync ∷ ss) rest e = none_synced ss rest e
none_synced (steps.Show objects ∷ ss) rest e = cc
none_synced (steps.Cut ∷ ss) rest e = cc
none_synced (steps.Quit ∷ ss) rest e = cc

-- A sync that is next waits.
sync_waits : (os : List Request) (ss rest : List Step) → passed_syncs os ss ≡ steps.Sync ∷ rest → 0 < length os
sync_waits [] ss rest e = absurd (none_synced ss rest e)
sync_waits (o ∷ os) ss rest e = omega arith

module _ (who : Identity) (t : List Event) where
  -- ---- Where a step can be done

  pub ask_room : may_ask who t ≡ true → length (outstanding who t) < 16
  ask_room may = ltb-true (length (outstanding who t)) 16 may

  pub act_room : (action : Action) → can_do who t (steps.Act action) ≡ true → (length (pending_of t) < 8) × (length (outstanding who t) < 16)
  act_room action can =
      let both = both_true (nat_lt (length (pending_of t)) 8) (may_ask who t) can in
      (ltb-true (length (pending_of t)) 8 both.0, ask_room both.1)

  -- ---- Where it can't

  none_asked : may_ask who t ≡ false → 16 ≤ length (outstanding who t)
  none_asked full = ltb-false (length (outstanding who t)) 16 full

  -- A reply is awaited, or as many actions are pending as may be.
  abbrev pub IsFull : Type 0
  IsFull = (8 ≤ length (pending_of t)) ⊎ (0 < length (outstanding who t))

  asking_full : may_ask who t ≡ false → IsFull
  asking_full full = let most = none_asked full in inr (omega (arith, most))

  pub waits_full : (left : List Step) → can_do_first who t (unsynced who t left) ≡ false → (unsynced who t left ≡ [] → outstanding who t ≢ []) → IsFull
  waits_full left stays some = go (unsynced who t left) refl
    where
      acts : (nat_lt (length (pending_of t)) 8 ≡ false) ⊎ (may_ask who t ≡ false) → IsFull
      acts (inl full) = inl (ltb-false (length (pending_of t)) 8 full)
      acts (inr full) = asking_full full

      go : (ss : List Step) → unsynced who t left ≡ ss → IsFull
      go [] e = inr (some_length (outstanding who t) (some e))
      go (steps.Act action ∷ ss) e = acts (one_false (nat_lt (length (pending_of t)) 8) (may_ask who t) (ap (can_do_first who t) (sym e) ∙ stays))
      go (steps.Poll ∷ ss) e = asking_full (ap (can_do_first who t) (sym e) ∙ stays)
      go (steps.Observe objects ∷ ss) e = asking_full (ap (can_do_first who t) (sym e) ∙ stays)
      go (steps.Sync ∷ ss) e = inr (sync_waits (outstanding who t) left ss e)
      go (steps.Show objects ∷ ss) e = (let never : ◌≡◌ {A = Bool} true false = ap (can_do_first who t) (sym e) ∙ stays in cc)
      go (steps.Cut ∷ ss) e = (let never : ◌≡◌ {A = Bool} true false = ap (can_do_first who t) (sym e) ∙ stays in cc)
      go (steps.Quit ∷ ss) e = (let never : ◌≡◌ {A = Bool} true false = ap (can_do_first who t) (sym e) ∙ stays in cc)

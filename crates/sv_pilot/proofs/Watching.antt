-- Observing over and over.
use Rattle.std.proofs.Common.{◌≡◌, ◌+◌, ◌<◌, ◌⊎◌, inl, inr, ℕ, List, [], refl, sym, subst, add-one}
use Rattle.sv_world.specs.declared.world.ObjectId.{ObjectId}
use Rattle.sv_client.specs.declared.trace.Event.TheVariants as events
use Rattle.sv_client.specs.Proper.{MayObserve}
use Rattle.sv_pilot.specs.declared.trouble.Trouble.{Trouble}
use Rattle.sv_pilot.specs.declared.trouble.Trouble.TheVariants as troubles
use Rattle.sv_pilot.specs.Doings.{PilotView, Did, Stopped, Watched, StoppedWatch}

module _ (objects asked : List ObjectId) (wait : ℕ) (same : asked ≡ objects) where
  pub watched_more : (n : ℕ) (old mid new : PilotView) → Watched objects wait n old mid → Did (events.Observe asked wait) mid new [] → Watched objects wait (n + 1) old new
  watched_more n old mid new w d =
      subst (λ (k : ℕ). Watched objects wait k old new) (sym (add-one n)) (mid, w, subst (λ (os : List ObjectId). Did (events.Observe os wait) mid new []) same d)

  pub watch_stopped : (times n : ℕ) (old mid new : PilotView) (trouble : Trouble) → n < times → Watched objects wait n old mid → (trouble ≡ troubles.Game) ⊎ Stopped (events.Observe asked wait) mid new trouble
      → (trouble ≡ troubles.Game → (new ≡ mid) × (MayObserve mid.client.who mid.client.events asked → ⊥)) → StoppedWatch objects wait times old new trouble
  watch_stopped times n old mid new trouble l w (inl game) r = record {
    before = n;
    fewer = l;
    last = mid;
    watched = w;
    why = inl (game, (r game).0, subst (λ (os : List ObjectId). MayObserve mid.client.who mid.client.events os → ⊥) same (r game).1);
  }
  watch_stopped times n old mid new trouble l w (inr s) r = record {
    before = n;
    fewer = l;
    last = mid;
    watched = w;
    why = inr (subst (λ (os : List ObjectId). Stopped (events.Observe os wait) mid new trouble) same s);
  }

pub watch_lacks : (objects : List ObjectId) (wait times n : ℕ) (old mid new : PilotView) → new ≡ mid → n < times → Watched objects wait n old mid → StoppedWatch objects wait times old new troubles.Memory
watch_lacks objects wait times n old mid new same l w = record { before = n; fewer = l; last = mid; watched = w; why = inr (inl (same, refl)) }

-- What a core's queue says of a position, against the history that the core keeps.
use Rattle.std.proofs.Common.{◌≡◌, ℕ, ◌≤◌, Bool, true, false, ◌&&◌, nat_lt, is_none, List, length, refl, ◌∙◌, ap}
use Rattle.std.proofs.lemmas.Bool.{ltb-true}
use Rattle.sv_journal.specs.declared.entry.Entry.{Entry}
use Rattle.sv_journal.specs.History.{accepted, result_at, commit_of}
use Rattle.sv_journal.specs.Answer.{Rules}
use Rattle.sv_queue.specs.Queue.{QueueView, entry_at}
use Rattle.sv_core.specs.Fits.{QueueFits}
use Rattle.sv_core.specs.Relays.{is_missing}

pub missing-is : (r : Rules) (h : List Entry) (v : QueueView) (S : ℕ → List ℕ) (N : ℕ → ℕ → List ℕ) (p : ℕ) → v.commit ≡ commit_of h → p ≤ length (accepted h) →
    QueueFits r.world (accepted h) (result_at h) S N v → is_missing v p ≡ (nat_lt (commit_of h) p && is_none (result_at h p))
missing-is r h v S N p at high f = go (nat_lt v.commit p) refl ∙ ap (λ c. nat_lt c p && is_none (result_at h p)) at
  where
    go : (b : Bool) → nat_lt v.commit p ≡ b → (b && is_none (entry_at v p).result) ≡ (b && is_none (result_at h p))
    go true q = ap is_none (f.entries p (ltb-true v.commit p q) high).result
    go false q = refl

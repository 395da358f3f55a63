-- A text is appended to a log and then synced: what a crash leaves on the way.
use Rattle.std.proofs.Common.{◌≡◌, ℕ, List, ◌++◌, subst}
use Rattle.sv_log.specs.Pictures.{Picture, Disk}
use Rattle.sv_log.specs.Crashes.{LeavesOnly}
use Rattle.sv_log.specs.Texts.{IsFront}
use Rattle.sv_log.specs.Chains.{StateFile, KeepsLog, HasLog}
use Rattle.sv_log.proofs.Texts.{front_then}
use Rattle.sv_log.proofs.Moments.{then_only, weaker_only}

module _ (world : List ℕ) (state : StateFile) (low high : List ℕ) where
  later : (state₂ : StateFile) (low₂ high₂ : List ℕ) → state₂ ≡ state → IsFront low low₂ → high₂ ≡ high
      → (c : Picture) → KeepsLog world state₂ low₂ high₂ c → KeepsLog world state low high c
  later state₂ low₂ high₂ same begins ends c kept =
      let t = kept.0 in
      (t, subst (λ (x : StateFile). HasLog world x t c) same kept.1, front_then low low₂ t begins kept.2, subst (λ (l : List ℕ). IsFront t l) ends kept.3)

  -- The text grew at its end, and then all of it was put on the disk.
  pub both : (old mid new : Disk) (state₂ : StateFile) (low₂ high₂ : List ℕ) → state₂ ≡ state → IsFront low low₂ → high₂ ≡ high
      → LeavesOnly old mid (KeepsLog world state low high) → LeavesOnly mid new (KeepsLog world state₂ low₂ high₂) → LeavesOnly old new (KeepsLog world state low high)
  both old mid new state₂ low₂ high₂ same begins ends one two =
      then_only old mid new (KeepsLog world state low high) one
      (weaker_only mid new (KeepsLog world state₂ low₂ high₂) (KeepsLog world state low high) (later state₂ low₂ high₂ same begins ends) two)

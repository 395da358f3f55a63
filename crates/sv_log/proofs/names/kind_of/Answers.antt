-- What is proved by hand of `kind_of`.
use Rattle.std.proofs.Common.{List, ℕ, subst}
use Rattle.sv_log.specs.Texts.{IsFront}
use Rattle.sv_log.specs.Names.{segment_kind, state_kind}
use Rattle.sv_log.proofs.names.kind_of.Goals as goal

pub returns : goal.returns
returns c = (
  subst (λ (n : List ℕ). IsFront segment_kind n → ⊥) c.as_bytes.ensures.value
      (subst (λ (k : List ℕ). IsFront k c.as_bytes.result.now → ⊥) c.as_bytes-2.ensures.value c.in_default.ensures),
  subst (λ (n : List ℕ). IsFront state_kind n → ⊥) c.as_bytes-3.ensures.value
      (subst (λ (k : List ℕ). IsFront k c.as_bytes-3.result.now → ⊥) c.as_bytes-4.ensures.value c.in_default-behind.ensures),
)

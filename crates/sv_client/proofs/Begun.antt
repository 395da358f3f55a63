-- A client that began sessions and did nothing else.
use Rattle.std.proofs.Common.{◌≡◌, ℕ, zero, suc, ◌+◌, ◌<◌, Bool, true, List, [], ◌∷◌, length, refl, sym, ap, subst, ◌∙◌, add-one, arith}
use Rattle.std.specs.Prelude.{replicate}
use Rattle.sv_versions.specs.Held.{Store}
use Rattle.sv_pending.specs.Made.{PendingList}
use Rattle.sv_client.specs.declared.kinds.Awaited.{Awaited}
use Rattle.sv_client.specs.declared.kinds.Awaited.TheVariants as kinds
use Rattle.sv_client.specs.declared.trace.Event.TheVariants as events
use Rattle.sv_client.specs.Traces.{joins}
use Rattle.sv_client.specs.Taking.{Identity}
use Rattle.sv_client.specs.Seen.{only_joins}
use Rattle.sv_client.specs.Invariant.{IsClientOf}
use Rattle.sv_client.proofs.Keeping.{joined_keeps}

pub joins_begun : (n : ℕ) → joins (only_joins n) ≡ n
joins_begun zero = refl
joins_begun (suc n) = ap suc (joins_begun n)

-- The last Join has no reply.
abbrev awaited_after : List Awaited → ℕ → List Awaited
awaited_after ks zero = ks
awaited_after ks (suc n) = kinds.Join ∷ []

abbrev sessions_after : ℕ → ℕ → ℕ
sessions_after s zero = s
sessions_after s (suc n) = suc n

abbrev joined_after : Bool → ℕ → Bool
joined_after j zero = j
joined_after j (suc n) = true

module _ (who : Identity) (store : Store) (pending : PendingList) (ks : List Awaited) (s m k : ℕ) (j : Bool) (is : IsClientOf who [] store pending ks s m k j) where
  counted : (n : ℕ) → sessions_after s n ≡ n
  counted zero = is.counts.sessions_are
  counted (suc n) = refl

  none : length pending.items ≡ 0
  none = ap (λ (p : PendingList). length p.items) is.actions

  joined : (n : ℕ) → IsClientOf who (only_joins n) store pending (awaited_after ks n) (sessions_after s n) m k (joined_after j n)
  joined zero = is
  joined (suc n) =
      let next = joined_keeps who (only_joins n) store pending (awaited_after ks n) (sessions_after s n) m k (joined_after j n) (joined n) (kinds.Join ∷ [])
      (sym (ap (λ (l : ℕ). kinds.Join ∷ replicate l kinds.Submit) none)) (omega (arith, none)) in
      subst (λ (l : ℕ). IsClientOf who (events.Join l ∷ only_joins n) store pending (kinds.Join ∷ []) (suc n) m k true) (joins_begun n)
      (subst (λ (l : ℕ). IsClientOf who (events.Join (joins (only_joins n)) ∷ only_joins n) store pending (kinds.Join ∷ []) l m k true)
      (ap (λ (l : ℕ). l + 1) (counted n) ∙ add-one n) next)

  pub begun : (n : ℕ) (ls : List Awaited) → 0 < n → ls ≡ kinds.Join ∷ [] → IsClientOf who (only_joins n) store pending ls n m k true
  begun zero ls l e = absurd (omega (arith, l))
  begun (suc n) ls l e = subst (λ (xs : List Awaited). IsClientOf who (only_joins (suc n)) store pending xs (suc n) m k true) (sym e) (joined (suc n))

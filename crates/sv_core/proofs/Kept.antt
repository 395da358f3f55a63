-- Kept outcomes, by the rows of clients.
use Rattle.std.proofs.Common.{◌≡◌, ℕ, zero, suc, ◌+◌, ◌<◌, Bool, true, false, ◌&&◌, cond, nat_eq, nat_le, List, [], ◌∷◌, map, length, Option, Some, None, slice_get, refl, sym, ◌∙◌, ap, arith}
use Rattle.std.proofs.lemmas.Bool.{cond_both, cond-false, eqb-true, ne_eqb, and_right}
use Rattle.sv_world.specs.declared.action.Action.{Action}
use Rattle.sv_world.specs.declared.world.ObjectId.{ObjectId}
use Rattle.sv_wire.specs.declared.message.Request.TheVariants as requests
use Rattle.sv_journal.specs.declared.entry.Entry.{Entry}
use Rattle.sv_journal.specs.History.{Outcome, is_client, new_action, client_of, outcomes_of, next_seq}
use Rattle.sv_journal.specs.Sessions.{outcome_at, kept_count, kept_outcome}
use Rattle.sv_core.specs.Decisions.{IsOld}

pub get-within : {X : Type 0} (xs : List X) (n : ℕ) (y : X) → slice_get xs n ≡ Some y → n < length xs
get-within [] n y h = cc
get-within (x ∷ xs) zero y h = omega arith
get-within (x ∷ xs) (suc n) y h = (let l : n < length xs = get-within xs n y h in omega arith)

-- A kept outcome is of an earlier number than the next.
pub kept-at : (h : List Entry) (k seq : ℕ) (o : Outcome) → kept_outcome h k seq ≡ Some o → (seq < next_seq h k) × ((n : ℕ) × (slice_get (outcomes_of h k) n ≡ Some o))
kept-at h k seq o = cond_both (nat_le (next_seq h k) (seq + kept_count)) (outcome_at (outcomes_of h k) seq) None
    (λ found. found ≡ Some o → (seq < next_seq h k) × ((n : ℕ) × (slice_get (outcomes_of h k) n ≡ Some o)))
    (λ q t. at seq t) (λ q t. cc)
  where
    at : (m : ℕ) → outcome_at (outcomes_of h k) m ≡ Some o → (m < next_seq h k) × ((n : ℕ) × (slice_get (outcomes_of h k) n ≡ Some o))
    at zero t = cc
    at (suc n) t = ((let l : n < length (outcomes_of h k) = get-within (outcomes_of h k) n o t in omega arith), (n, t))

-- A Submit with an earlier number than its client's next brings nothing new.
pub old-submit : (h : List Entry) (s k seq : ℕ) (a : Action) → client_of h s ≡ Some k → seq < next_seq h k → IsOld h s (requests.Submit seq a)
old-submit h s k seq a is low = record {
  accepts = ap (λ c. new_action c (next_seq h) (requests.Submit seq a)) is
      ∙ cond-false (nat_eq seq (next_seq h k)) (record { client = k; seq = seq; action = a } ∷ []) [] (ne_eqb seq (next_seq h k) (λ q. omega arith));
  outcomes = λ j. ap (λ c. is_client c j && nat_eq seq (next_seq h j)) is ∙ go j (nat_eq k j) refl;
}
  where
    go : (j : ℕ) (b : Bool) → nat_eq k j ≡ b → (b && nat_eq seq (next_seq h j)) ≡ false
    go j true q = (let same : k ≡ j = eqb-true k j q in
        ne_eqb seq (next_seq h j) (λ t. (let e : next_seq h k ≡ next_seq h j = ap (next_seq h) same in omega arith)))
    go j false q = refl

pub old-poll : (h : List Entry) (s : ℕ) → IsOld h s requests.Poll
old-poll h s = record {
  accepts = go (client_of h s);
  outcomes = λ j. and_right (is_client (client_of h s) j) false refl;
}
  where
    go : (k : Option ℕ) → new_action k (next_seq h) requests.Poll ≡ []
    go None = refl
    go (Some k) = refl

pub old-observe : (h : List Entry) (s : ℕ) (objects : List ObjectId) (wait : ℕ) → IsOld h s (requests.Observe objects wait)
old-observe h s objects wait = record {
  accepts = go (client_of h s);
  outcomes = λ j. and_right (is_client (client_of h s) j) false refl;
}
  where
    go : (k : Option ℕ) → new_action k (next_seq h) (requests.Observe objects wait) ≡ []
    go None = refl
    go (Some k) = refl

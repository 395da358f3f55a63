-- What a fitting queue says of relays, influence and reported results.
use Rattle.std.proofs.Common.{◌≡◌, ℕ, zero, suc, ◌-◌, ◌<◌, ◌≤◌, true, inl, inr, List, map, filter, length, get_or, replicate, Option, ℤ, refl, sym, ◌∙◌, ap, arith}
use Rattle.std.proofs.lemmas.Bool.{cases_lt, false_from_ne_true}
use Rattle.std.proofs.lemmas.List.{get_or-append_right, length-replicate, get_or_past}
use Rattle.std.proofs.Math.ListN.{get_or-map}
use Rattle.sv_world.specs.declared.action.Action.{Action}
use Rattle.sv_world.specs.declared.world.Shape.{Shape}
use Rattle.sv_world.specs.declared.world.World.{World}
use Rattle.sv_world.specs.Control.{is_in, below, blank, action_at, needed_for, head_for, influence, influence_distance, distance}
use Rattle.sv_world.specs.Trees.{greatest}
use Rattle.sv_world.proofs.Needs.{needed-agree}
use Rattle.sv_world.proofs.Bases.{head_for-agree, below-is_in}
use Rattle.sv_world.proofs.Influences.{influence-agree, influence-bounds, map_same}
use Rattle.sv_world.proofs.Members.{filter-ext}
use Rattle.sv_queue.specs.Pairs.{is_pair}
use Rattle.sv_queue.specs.Queue.{Queued, QueueView, entry_at, no_entry, entry_actions, queue_actions, sent_positions, given_objects}
use Rattle.sv_queue.proofs.Entries.{in_marked}
use Rattle.sv_influence.specs.Lacking.{lacking, base_objects}
use Rattle.sv_influence.proofs.Looks.{queue_length}
use Rattle.sv_journal.specs.History.{Authored}
use Rattle.sv_core.specs.Fits.{actions_in, was_given, QueueFits}
use Rattle.sv_core.proofs.FitPush.{authored-action, length-actions}

pub queue-action : (v : QueueView) (p : ℕ) → v.commit < p → action_at (queue_actions v) p ≡ (entry_at v p).action
queue-action v zero low = absurd (omega arith)
queue-action v (suc k) low =
    get_or-append_right (replicate v.commit blank) (entry_actions v.entries) v.commit k blank (length-replicate v.commit blank) (omega arith)
    ∙ get_or-map (λ (e : Queued). e.action) v.entries (k - v.commit) no_entry
    ∙ ap (λ n. (get_or v.entries n no_entry).action) (let e : k - v.commit ≡ suc k - v.commit - 1 = omega arith in e)

module _ (w : World) (A : List Authored) (R : ℕ → Option (List (List ℤ))) (S : ℕ → List ℕ) (N : ℕ → ℕ → List ℕ) (v : QueueView)
    (f : QueueFits w A R S N v) (within : (t p : ℕ) → is_in p (S t) ≡ true → p ≤ length A) where
  pub action-is : (k : ℕ) → v.commit < k → k ≤ length A → action_at (queue_actions v) k ≡ action_at (actions_in A) k
  action-is k low high = queue-action v k low ∙ (f.entries k low high).action ∙ authored-action A k

  past : (k : ℕ) → length A < k → entry_at v k ≡ no_entry
  past k high = get_or_past v.entries (k - v.commit - 1) no_entry (omega (arith, f.last))

  pub sent-is : (s k : ℕ) → s < 1024 → v.commit < k → is_in k (sent_positions v s) ≡ is_in k (S s)
  sent-is s k small low =
      in_marked v.commit v.entries s k low
      ∙ elim (cases_lt (length A) k) [
        | inl high ↦ ap (λ (e : Queued). is_in s e.marks) (past k high)
            ∙ sym (false_from_ne_true (is_in k (S s)) (λ h. (let l : k ≤ length A = within s k h in omega arith)))
        | inr high ↦ (f.entries k low high).marks s small
      ]

  pub lacking-is : (s p : ℕ) → s < 1024 → v.commit < p → p ≤ length A → lacking v s p ≡ needed_for (actions_in A) v.commit (S s) p
  lacking-is s p small low high =
      needed-agree (queue_actions v) (actions_in A) v.commit (sent_positions v s) (S s) p low (λ k a b. action-is k a (omega arith)) (λ k a. sent-is s k small a)

  pub bases-are : (given : List ℕ) (s p : ℕ) → s < 1024 → v.commit < p → p ≤ length A → given_objects v s ≡ given →
      base_objects v s p ≡ head_for w.shape.objects (actions_in A) v.commit (S s) given p
  bases-are given s p small low high same =
      ap (λ g. head_for v.shape.objects (queue_actions v) v.commit (sent_positions v s) g p) same
      ∙ head_for-agree v.shape.objects (queue_actions v) (actions_in A) v.commit (sent_positions v s) (S s) given p low
      (λ k a b. action-is k a (omega arith)) (λ k a. sent-is s k small a)
      ∙ ap (λ (d : Shape). head_for d.objects (actions_in A) v.commit (S s) given p) f.shape

  pub given-are : (s : ℕ) → s < 1024 → given_objects v s ≡ filter (λ x. was_given (actions_in A) (S s) (N s x) x v.commit) (below w.shape.objects)
  given-are s small =
      ap (λ (d : Shape). filter (λ x. is_pair x s v.given) (below d.objects)) f.shape
      ∙ filter-ext (λ x. is_pair x s v.given) (λ x. was_given (actions_in A) (S s) (N s x) x v.commit) (below w.shape.objects)
      (λ x h. f.given x s (below-is_in w.shape.objects x h) small)

  same_length : length (queue_actions v) ≡ length (actions_in A)
  same_length = queue_length v ∙ f.last ∙ sym (length-actions A)

  far_action : (k : ℕ) → v.commit < k → action_at (queue_actions v) k ≡ action_at (actions_in A) k
  far_action k low = elim (cases_lt (length A) k) [
    | inl high ↦ beyond (queue_actions v) k (omega (arith, same_length, length-actions A)) ∙ sym (beyond (actions_in A) k (omega (arith, length-actions A)))
    | inr high ↦ action-is k low high
  ]
    where
      beyond : (acts : List Action) (k : ℕ) → length acts < k → action_at acts k ≡ blank
      beyond acts zero high = refl
      beyond acts (suc k) high = get_or_past acts k blank (omega arith)

  pub influence-is : (a : Action) → influence (queue_actions v) v.commit a ≡ influence (actions_in A) v.commit a
  influence-is a = influence-agree (queue_actions v) (actions_in A) v.commit a same_length (omega (arith, queue_length v)) far_action

  pub distance-is : (a : Action) → influence_distance (queue_actions v) v.commit a ≡ influence_distance (actions_in A) v.commit a
  distance-is a =
      ap greatest (map_same (λ j. distance a.origin (action_at (queue_actions v) j).origin) (λ j. distance a.origin (action_at (actions_in A) j).origin)
      (influence (queue_actions v) v.commit a) (λ j h. ap (λ (b : Action). distance a.origin b.origin) (far_action j (influence-bounds (queue_actions v) v.commit a j h).0)))
      ∙ ap (λ js. greatest (map (λ j. distance a.origin (action_at (actions_in A) j).origin) js)) (influence-is a)

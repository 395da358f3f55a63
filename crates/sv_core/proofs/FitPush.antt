-- A queue with one more action.
use Rattle.std.proofs.Common.{◌≡◌, ℕ, zero, suc, ◌-◌, ◌<◌, ◌≤◌, true, false, ◌&&◌, nat_le, inl, inr, List, [], ◌∷◌, ◌++◌, filter, length, Option, ℤ, None, refl, sym, ◌∙◌, ap, subst, arith, length-append}
use Rattle.std.proofs.lemmas.Bool.{cases_eq, false_from_ne_true}
use Rattle.std.proofs.lemmas.List.{get_or_append_left, get_or_push, map_push, length-map}
use Rattle.std.proofs.Math.ListN.{get_or-map}
use Rattle.std.specs.List.{list_any}
use Rattle.sv_world.specs.declared.action.Action.{Action}
use Rattle.sv_world.specs.declared.world.ClientId.{ClientId}
use Rattle.sv_world.specs.declared.world.World.{World}
use Rattle.sv_world.specs.Control.{is_in, blank, action_at, last_writer}
use Rattle.sv_world.specs.Sets.{write_set}
use Rattle.sv_world.proofs.Writers.{action_at-append, last_writer-same}
use Rattle.sv_world.proofs.Members.{filter-ext}
use Rattle.sv_queue.specs.Queue.{Queued, QueueView, entry_at, no_entry, with_action}
use Rattle.sv_journal.specs.History.{Authored, authored_at}
use Rattle.sv_journal.proofs.Stays.{authored_stays, authored_last}
use Rattle.sv_core.specs.Fits.{actions_in, values_after, was_given, IsQueueEntry, QueueFits}

abbrev pub no_author : Authored
no_author = record { client = 0; seq = 0; action = blank }

pub authored-action : (A : List Authored) (p : ℕ) → (authored_at A p).action ≡ action_at (actions_in A) p
authored-action A zero = refl
authored-action A (suc n) = sym (get_or-map (λ (a : Authored). a.action) A n no_author)

pub length-actions : (A : List Authored) → length (actions_in A) ≡ length A
length-actions A = length-map A (λ (a : Authored). a.action)

pub values-append : (opening : List (List ℤ)) (acts more : List Action) (R : ℕ → Option (List (List ℤ))) (c : ℕ) → c ≤ length acts →
    values_after opening (acts ++ more) R c ≡ values_after opening acts R c
values-append opening acts more R zero low = refl
values-append opening acts more R (suc c) low = rw (values-append opening acts more R c (omega arith), action_at-append acts more (suc c) low) refl

-- Later actions give nothing.
pub was_given-append : (acts more : List Action) (sent named : List ℕ) (x c : ℕ) → c ≤ length acts → ((p : ℕ) → is_in p sent ≡ true → p ≤ length acts) →
    was_given (acts ++ more) sent named x c ≡ was_given acts sent named x c
was_given-append acts more sent named x c low within =
    ap (λ w. list_any (λ q. nat_le w q && nat_le q c) (named ++ filter (λ p. is_in x (write_set (action_at (acts ++ more) p))) sent))
    (last_writer-same (acts ++ more) acts x (suc c) (λ k a b. action_at-append acts more k (omega arith)))
    ∙ ap (λ ys. list_any (λ q. nat_le (last_writer acts x (suc c)) q && nat_le q c) (named ++ ys))
    (filter-ext (λ p. is_in x (write_set (action_at (acts ++ more) p))) (λ p. is_in x (write_set (action_at acts p))) sent
    (λ k h. ap (λ (a : Action). is_in x (write_set a)) (action_at-append acts more k (within k h))))

pub fits-pushed : (w : World) (A : List Authored) (R : ℕ → Option (List (List ℤ))) (S : ℕ → List ℕ) (N : ℕ → ℕ → List ℕ) (v : QueueView)
    (author : ClientId) (seq : ℕ) (action : Action) → R (suc (length A)) ≡ None → ((t p : ℕ) → is_in p (S t) ≡ true → p ≤ length A) → QueueFits w A R S N v →
    QueueFits w (A ++ record { client = author.0; seq = seq; action = action } ∷ []) R S N (with_action v author seq action)
fits-pushed w A R S N v author seq action none within f = record {
  shape = f.shape;
  last = omega (arith, length-append v.entries (e ∷ []), length-append A (a ∷ []), f.last);
  committed = f.committed
      ∙ sym (values-append w.values (actions_in A) (action ∷ []) R v.commit commit_low)
      ∙ ap (λ acts. values_after w.values acts R v.commit) (sym (map_push (λ (b : Authored). b.action) A a));
  entries = entries;
  given = λ x t low small. f.given x t low small
      ∙ sym (was_given-append (actions_in A) (action ∷ []) (S t) (N t x) x v.commit commit_low (λ p h. omega (arith, within t p h, length-actions A)))
      ∙ ap (λ acts. was_given acts (S t) (N t x) x v.commit) (sym (map_push (λ (b : Authored). b.action) A a));
}
  where
    a : Authored
    a = record { client = author.0; seq = seq; action = action }

    e : Queued
    e = record { author = author; seq = seq; action = action; result = None; marks = [] }

    commit_low : v.commit ≤ length (actions_in A)
    commit_low = omega (arith, f.last, length-actions A)

    unsent : (t : ℕ) → is_in (suc (length A)) (S t) ≡ false
    unsent t = false_from_ne_true (is_in (suc (length A)) (S t)) (λ h. (let l : suc (length A) ≤ length A = within t (suc (length A)) h in omega arith))

    new_entry : IsQueueEntry (A ++ a ∷ []) R S (suc (length A)) e
    new_entry = record {
      author = ap (λ (b : Authored). b.client) (sym (authored_last A a));
      seq = ap (λ (b : Authored). b.seq) (sym (authored_last A a));
      action = ap (λ (b : Authored). b.action) (sym (authored_last A a));
      result = sym none;
      marks = λ s small. sym (unsent s);
    }

    old_entry : (p : ℕ) (q : Queued) → p ≤ length A → IsQueueEntry A R S p q → IsQueueEntry (A ++ a ∷ []) R S p q
    old_entry p q low h = record {
      author = h.author ∙ ap (λ (b : Authored). b.client) (sym (authored_stays A (a ∷ []) p low));
      seq = h.seq ∙ ap (λ (b : Authored). b.seq) (sym (authored_stays A (a ∷ []) p low));
      action = h.action ∙ ap (λ (b : Authored). b.action) (sym (authored_stays A (a ∷ []) p low));
      result = h.result;
      marks = h.marks;
    }

    entries : (p : ℕ) → v.commit < p → p ≤ length (A ++ a ∷ []) → IsQueueEntry (A ++ a ∷ []) R S p (entry_at (with_action v author seq action) p)
    entries p low high = elim (cases_eq p (suc (length A))) [
      | inl same ↦ subst (λ n. IsQueueEntry (A ++ a ∷ []) R S n (entry_at (with_action v author seq action) n)) (sym same)
          (subst (IsQueueEntry (A ++ a ∷ []) R S (suc (length A))) (sym (get_or_push v.entries e no_entry (suc (length A) - v.commit - 1) (omega (arith, f.last)))) new_entry)
      | inr ne ↦ (let old : p ≤ length A = omega (arith, length-append A (a ∷ [])) in
          subst (IsQueueEntry (A ++ a ∷ []) R S p) (sym (get_or_append_left v.entries (e ∷ []) no_entry (p - v.commit - 1) (omega (arith, f.last))))
          (old_entry p (entry_at v p) old (f.entries p low old)))
    ]

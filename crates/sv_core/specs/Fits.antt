-- A queue against what was accepted, reported and sent.
-- `A` are the accepted actions with their authors, `R` the results of positions, `S` the positions that were sent to the session of each slot,
-- and `N` the commits of the replies to it whose heads name an object.
use Rattle.std.specs.Prelude.{◌≡◌, ℕ, zero, suc, ◌<◌, ◌≤◌, Bool, ◌&&◌, nat_le, ℤ, List, [], ◌++◌, map, filter, length, Option, unwrap_or}
use Rattle.std.specs.List.{list_any}
use Rattle.sv_world.specs.declared.action.Action.{Action}
use Rattle.sv_world.specs.declared.world.World.{World}
use Rattle.sv_world.specs.Control.{is_in, action_at, last_writer}
use Rattle.sv_world.specs.Limits.{most_open}
use Rattle.sv_world.specs.Sets.{write_set}
use Rattle.sv_eval.specs.Serial.{put_all}
use Rattle.sv_queue.specs.Pairs.{is_pair}
use Rattle.sv_queue.specs.Queue.{Queued, QueueView, last_position, entry_at}
use Rattle.sv_journal.specs.History.{Authored, authored_at}

abbrev pub actions_in : List Authored → List Action
actions_in A = map (λ (a : Authored). a.action) A

-- The opening values after the results of the positions from 1 to p, in order.
abbrev pub values_after : List (List ℤ) → List Action → (ℕ → Option (List (List ℤ))) → ℕ → List (List ℤ)
values_after opening acts R zero = opening
values_after opening acts R (suc p) = put_all (values_after opening acts R p) (write_set (action_at acts (suc p))) (unwrap_or (R (suc p)) [])

-- A session that was sent these positions, and named an object at these commits, was given it since its last writer up to a commit.
abbrev pub was_given : List Action → List ℕ → List ℕ → ℕ → ℕ → Bool
was_given acts sent named x commit = list_any (λ q. nat_le (last_writer acts x (suc commit)) q && nat_le q commit)
    (named ++ filter (λ p. is_in x (write_set (action_at acts p))) sent)

-- The queue's entry of a position.
pub record IsQueueEntry (A : List Authored) (R : ℕ → Option (List (List ℤ))) (S : ℕ → List ℕ) (p : ℕ) (q : Queued) : Type 0 where
  pub author : q.author.0 ≡ (authored_at A p).client
  pub seq : q.seq ≡ (authored_at A p).seq
  pub action : q.action ≡ (authored_at A p).action
  pub result : q.result ≡ R p
  pub marks : (s : ℕ) → s < most_open → is_in s q.marks ≡ is_in p (S s)

pub record QueueFits (w : World) (A : List Authored) (R : ℕ → Option (List (List ℤ))) (S : ℕ → List ℕ) (N : ℕ → ℕ → List ℕ) (v : QueueView) : Type 0 where
  pub shape : v.shape ≡ w.shape
  pub last : last_position v ≡ length A
  pub committed : v.committed ≡ values_after w.values (actions_in A) R v.commit
  pub entries : (p : ℕ) → v.commit < p → p ≤ length A → IsQueueEntry A R S p (entry_at v p)
  pub given : (x s : ℕ) → x < w.shape.objects → s < most_open → is_pair x s v.given ≡ was_given (actions_in A) (S s) (N s x) x v.commit

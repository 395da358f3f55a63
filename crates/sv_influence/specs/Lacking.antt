-- What a session lacks of a position of a queue.
use Rattle.std.specs.Prelude.{ℕ, ◌&&◌, not, nat_lt, nat_le, List, [], ◌∷◌, map, filter}
use Rattle.sv_world.specs.Control.{is_in, action_at, last_writer, needed_for, head_for, needed_to_see, head_to_see, greatest_cut, SentIsClosed}
use Rattle.sv_world.specs.Sets.{read_set}
use Rattle.sv_queue.specs.Queue.{QueueView, queue_actions, sent_positions, given_objects}

-- The positions that a relay of it has.
abbrev pub lacking : QueueView → ℕ → ℕ → List ℕ
lacking v slot pos = needed_for (queue_actions v) v.commit (sent_positions v slot) pos

-- The objects of its base values.
abbrev pub base_objects : QueueView → ℕ → ℕ → List ℕ
base_objects v slot pos =
    head_for v.shape.objects (queue_actions v) v.commit (sent_positions v slot) (given_objects v slot) pos

-- Of last writers, those that the session lacks.
abbrev pub lacking_of : QueueView → ℕ → List ℕ → List ℕ
lacking_of v slot writers = filter (λ j. nat_lt v.commit j && not (is_in j (sent_positions v slot))) writers

-- Of objects that a position reads, the last writers that the session lacks.
abbrev pub lacking_writers : QueueView → ℕ → ℕ → List ℕ → List ℕ
lacking_writers v slot pos xs = lacking_of v slot (map (λ x. last_writer (queue_actions v) x pos) xs)

-- An object with this last writer, where it is read as committed and was not given to the session.
abbrev pub base_of : QueueView → ℕ → ℕ → ℕ → List ℕ
base_of v slot writer x = filter (λ y. nat_le writer v.commit && not (is_in y (given_objects v slot))) (x ∷ [])

-- Of objects that a position reads, those that it reads as committed and that were not given to the session.
abbrev pub committed_reads : QueueView → ℕ → ℕ → List ℕ → List ℕ
committed_reads v slot pos xs =
    filter (λ x. nat_le (last_writer (queue_actions v) x pos) v.commit && not (is_in x (given_objects v slot))) xs

-- What the queue's action at a position reads.
abbrev pub reads_at : QueueView → ℕ → List ℕ
reads_at v pos = read_set (action_at (queue_actions v) pos)

-- What the session lacks of objects at a position.
abbrev pub lacking_to_see : QueueView → ℕ → List ℕ → ℕ → List ℕ
lacking_to_see v slot xs n = needed_to_see (queue_actions v) v.commit (sent_positions v slot) xs n

-- The objects of the base values that go with it.
abbrev pub bases_to_see : QueueView → ℕ → List ℕ → ℕ → List ℕ
bases_to_see v slot xs n =
    head_to_see v.shape.objects (queue_actions v) v.commit (sent_positions v slot) (given_objects v slot) xs n

-- The greatest position at which the session can be shown the objects.
abbrev pub latest_cut : QueueView → ℕ → List ℕ → ℕ
latest_cut v slot xs = greatest_cut (queue_actions v) v.commit (sent_positions v slot) xs

-- Of each position marked for the session, each uncommitted position that it reads from is marked too.
abbrev pub MarksAreClosed : QueueView → ℕ → Type 0
MarksAreClosed v slot = SentIsClosed (queue_actions v) v.commit (sent_positions v slot)

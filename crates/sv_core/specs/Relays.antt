-- What a relay takes from a queue, and what its delivery and reported results make of it.
use Rattle.std.specs.Prelude.{◌≡◌, ℕ, suc, ◌<◌, ◌≤◌, Bool, ◌&&◌, ◌||◌, not, ◌==◌, nat_lt, nat_le, List, [], ◌∷◌, map, length, slice_index_or, is_none, if◌then◌else◌}
use Rattle.std.specs.List.{list_all}
use Rattle.sv_world.specs.Control.{is_in, action_at, last_writer}
use Rattle.sv_world.specs.Sets.{write_set}
use Rattle.sv_wire.specs.declared.message.Done1.{Done1}
use Rattle.sv_wire.specs.declared.message.ObjectValue.{ObjectValue}
use Rattle.sv_wire.specs.declared.message.Item.{Item}
use Rattle.sv_world.specs.Worlds.{HaveAttrs}
use Rattle.sv_queue.specs.Queue.{QueueView, last_position, entry_at, queue_actions, sent_positions, given_objects, with_mark, with_given, with_result}
use Rattle.sv_influence.specs.Lacking.{lacking_to_see, bases_to_see, latest_cut}

-- Objects with their committed values in a queue.
abbrev pub held_in : QueueView → List ℕ → List ObjectValue
held_in v xs = map (λ x. record { object = record { 0 = x }; value = slice_index_or v.committed x [] }) xs

-- What a relay says of a position of a queue.
abbrev pub item_in : QueueView → ℕ → Item
item_in v p = record { pos = p; client = (entry_at v p).author; seq = (entry_at v p).seq; action = (entry_at v p).action }

-- What a session is shown of objects, at the greatest cut.
abbrev pub seen_positions : QueueView → ℕ → List ℕ → List ℕ
seen_positions v s xs = lacking_to_see v s xs (latest_cut v s xs)

-- The objects of the base values that go with it.
abbrev pub seen_bases : QueueView → ℕ → List ℕ → List ℕ
seen_bases v s xs = bases_to_see v s xs (latest_cut v s xs)

-- A session knows of an object what its last writer made of it: it was sent this writer or, where that is committed, given the committed value.
abbrev pub knows_of : QueueView → ℕ → ℕ → ℕ → Bool
knows_of v s x writer = if nat_le writer v.commit then is_in x (given_objects v s) else is_in writer (sent_positions v s)

-- A session knows what an object is at the last position.
abbrev pub knows : QueueView → ℕ → ℕ → Bool
knows v s x = knows_of v s x (last_writer (queue_actions v) x (suc (last_position v)))

-- The queue once some positions were sent to a session.
abbrev pub marked_all : QueueView → List ℕ → ℕ → QueueView
marked_all v [] s = v
marked_all v (p ∷ ps) s = marked_all (with_mark v p s) ps s

-- The queue once a session was given some objects.
abbrev pub given_all : QueueView → List ObjectValue → ℕ → QueueView
given_all v [] s = v
given_all v (x ∷ xs) s = given_all (with_given v x.object.0 s) xs s

-- A position is not committed, and has no result yet.
abbrev pub is_missing : QueueView → ℕ → Bool
is_missing v p = nat_lt v.commit p && is_none (entry_at v p).result

-- The queue with a reported result, where its position is not committed and has none yet.
abbrev pub with_report : QueueView → Done1 → QueueView
with_report v d = if is_missing v d.pos then with_result v d.pos d.values else v

abbrev pub with_reports : QueueView → List Done1 → QueueView
with_reports v [] = v
with_reports v (d ∷ ds) = with_reports (with_report v d) ds

-- A reported result may not be taken: its position is not in the queue's numbering; or it is not committed, and was not sent to the session
-- or the values are not those of what its action writes.
abbrev pub is_bad_report : QueueView → ℕ → Done1 → Bool
is_bad_report v s d = d.pos == 0 || nat_lt (last_position v) d.pos || (nat_lt v.commit d.pos && (not (is_in d.pos (sent_positions v s))
    || not (length d.values == length (write_set (action_at (queue_actions v) d.pos)))
    || not (list_all (λ w. length w == v.shape.attrs) d.values)))

-- A reported result has the form of what its action writes, where it is not committed.
pub record CanReport (v : QueueView) (d : Done1) : Type 0 where
  pub last : d.pos ≤ last_position v
  pub count : v.commit < d.pos → length d.values ≡ length (write_set (entry_at v d.pos).action)
  pub attrs : v.commit < d.pos → HaveAttrs v.shape d.values

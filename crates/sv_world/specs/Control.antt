-- Which actions influence which, which of them a session still lacks, and which committed values it needs with them.
-- Everything here speaks of positions, reads, writes and delivery marks alone, and of no value: it holds for any clients.
-- `A` is the list of accepted actions; the action at position p, counted from 1, is its p-th. `sent` are the positions that were sent to a
-- session, and `given` are the objects whose committed value the session was given, or has computed, since they were last written.
use Rattle.std.specs.Prelude.{◌≡◌, ℕ, zero, suc, ◌<◌, Bool, true, false, ◌&&◌, ◌||◌, not, nat_lt, nat_le, nat_eq, List, [], ◌∷◌, ◌++◌, map, filter, length, take, slice_index_or, ◌+◌, ◌-◌, max, pos, ◌-ℤ◌, nat_abs, if◌then◌else◌}
use Rattle.sv_world.specs.declared.action.Action.{Action}
use Rattle.sv_world.specs.declared.action.Point.{Point}
use Rattle.sv_world.specs.Limits.{most_items}
use Rattle.sv_world.specs.Sets.{object_numbered, read_set, write_set}
use Rattle.sv_world.specs.Trees.{greatest}

abbrev pub is_in : ℕ → List ℕ → Bool
is_in k [] = false
is_in k (x ∷ xs) = nat_eq k x || is_in k xs

-- The numbers below n, ascending.
abbrev pub below : ℕ → List ℕ
below zero = []
below (suc n) = below n ++ n ∷ []

-- It reads and writes nothing.
abbrev pub blank : Action
blank = record { reads = []; mask = 0; origin = record { x = pos 0; y = pos 0 }; body = [] }

-- The action at a position, blank where there is none.
abbrev pub action_at : List Action → ℕ → Action
action_at A zero = blank
action_at A (suc n) = slice_index_or A n blank

-- The last writer of an object below a position: the greatest position below it whose action writes the object, else 0.
abbrev pub last_writer : List Action → ℕ → ℕ → ℕ
last_writer A x zero = 0
last_writer A x (suc n) = if is_in x (write_set (action_at A n)) then n else last_writer A x n

-- What a session lacks of the action at position i: the least set that has i and, for each k in it, the last writer below k of each object
-- that k reads, where that is above the commit and was not sent to the session.
pub data IsNeeded (A : List Action) (commit : ℕ) (sent : List ℕ) (i : ℕ) : ℕ → Type 0 where
  target : IsNeeded A commit sent i i
  writer : {k j : ℕ} (x : ℕ) → IsNeeded A commit sent i k → is_in x (read_set (action_at A k)) ≡ true →
      j ≡ last_writer A x k → commit < j → is_in j sent ≡ false → IsNeeded A commit sent i j

-- A set of positions has, for each k in it and each object that k reads, the last writer below k, where that is above the commit and was not
-- sent.
abbrev pub IsClosed : List Action → ℕ → List ℕ → (ℕ → Bool) → Type 0
IsClosed A commit sent p = (k x : ℕ) → p k ≡ true → is_in x (read_set (action_at A k)) ≡ true → commit < last_writer A x k →
    is_in (last_writer A x k) sent ≡ false → p (last_writer A x k) ≡ true

-- The last writers of what k reads that are above the commit and were not sent.
abbrev pub missing_writers : List Action → ℕ → List ℕ → ℕ → List ℕ
missing_writers A commit sent k =
    filter (λ j. nat_lt commit j && not (is_in j sent)) (map (λ x. last_writer A x k) (read_set (action_at A k)))

-- From position n down to 1, the positions that are wanted or become so as a missing writer of a later one; ascending.
abbrev pub wanted_up_to : List Action → ℕ → List ℕ → ℕ → List ℕ → List ℕ
wanted_up_to A commit sent zero wanted = []
wanted_up_to A commit sent (suc n) wanted = if is_in (suc n) wanted
    then wanted_up_to A commit sent n (wanted ++ missing_writers A commit sent (suc n)) ++ suc n ∷ []
    else wanted_up_to A commit sent n wanted

-- The items of a relay of position i, ascending: nothing where i was sent already, else just the positions that `IsNeeded`.
abbrev pub needed_for : List Action → ℕ → List ℕ → ℕ → List ℕ
needed_for A commit sent i = if is_in i sent then [] else wanted_up_to A commit sent i (i ∷ [])

-- Some of these positions reads the object with its last writer at or below the commit.
abbrev pub reads_committed : List Action → ℕ → ℕ → List ℕ → Bool
reads_committed A commit x [] = false
reads_committed A commit x (k ∷ ks) =
    (is_in x (read_set (action_at A k)) && nat_le (last_writer A x k) commit) || reads_committed A commit x ks

-- The objects of the base values of a relay of position i, ascending: those that its items read as committed, and that the session was not
-- given since they were last written.
abbrev pub head_for : ℕ → List Action → ℕ → List ℕ → List ℕ → ℕ → List ℕ
head_for objects A commit sent given i =
    filter (λ x. reads_committed A commit x (needed_for A commit sent i) && not (is_in x given)) (below objects)

-- The influence of an action placed after all of A: what a session that was sent nothing would lack of it, the action itself left out.
abbrev pub influence : List Action → ℕ → Action → List ℕ
influence A commit a = wanted_up_to (A ++ a ∷ []) commit [] (length A) (missing_writers (A ++ a ∷ []) commit [] (suc (length A)))

-- The influence as a relation, before the positions at or below the commit are left out: the least set that has the last writer of each
-- object that the action reads and, for each k in it, the last writer below k of each object that k reads.
pub data IsInfluence (A : List Action) (a : Action) : ℕ → Type 0 where
  direct : {j : ℕ} (x : ℕ) → is_in x (read_set a) ≡ true → j ≡ last_writer A x (suc (length A)) → IsInfluence A a j
  further : {k j : ℕ} (x : ℕ) → IsInfluence A a k → is_in x (read_set (action_at A k)) ≡ true → j ≡ last_writer A x k → IsInfluence A a j

abbrev pub chain_length : List Action → ℕ → Action → ℕ
chain_length A commit a = length (influence A commit a)

-- The distance of two points: the greater of the distances on the two axes.
abbrev pub distance : Point → Point → ℕ
distance p q = max (nat_abs (p.x -ℤ q.x)) (nat_abs (p.y -ℤ q.y))

-- The greatest distance between the action's origin and that of an action in its influence, 0 where there is none.
abbrev pub influence_distance : List Action → ℕ → Action → ℕ
influence_distance A commit a = greatest (map (λ j. distance a.origin (action_at A j).origin) (influence A commit a))

-- ---- Cuts: what objects are at one position, for a session that acts on none of them

-- Of each position sent to a session, each position above the commit that it reads from was sent too.
abbrev pub SentIsClosed : List Action → ℕ → List ℕ → Type 0
SentIsClosed A commit sent = (p x : ℕ) → is_in p sent ≡ true → is_in x (read_set (action_at A p)) ≡ true → commit < last_writer A x p →
    is_in (last_writer A x p) sent ≡ true

-- It reads the objects, writes nothing, and stands at (0, 0).
abbrev pub reading : List ℕ → Action
reading xs = record { reads = map object_numbered xs; mask = 0; origin = record { x = pos 0; y = pos 0 }; body = [] }

-- The first n actions, and behind them, at position n + 1, one that reads the objects.
abbrev pub with_reading : List Action → ℕ → List ℕ → List Action
with_reading A n xs = take n A ++ reading xs ∷ []

-- The positions up to n.
abbrev pub up_to : ℕ → List ℕ → List ℕ
up_to n ps = filter (λ p. nat_le p n) ps

-- What a session lacks of the objects at n, ascending: what it lacks of an action that reads them behind the first n, without this action. Of
-- the positions sent to it those up to n count, since position n + 1 is here that of the action that reads.
abbrev pub needed_to_see : List Action → ℕ → List ℕ → List ℕ → ℕ → List ℕ
needed_to_see A commit sent xs n = up_to n (needed_for (with_reading A n xs) commit (up_to n sent) (suc n))

-- The objects of the base values that go with it, ascending. Those of the objects themselves that are read as committed are among them, but
-- for those that the session was given since they were last written.
abbrev pub head_to_see : ℕ → List Action → ℕ → List ℕ → List ℕ → List ℕ → ℕ → List ℕ
head_to_see objects A commit sent given xs n = head_for objects (with_reading A n xs) commit (up_to n sent) given (suc n)

-- The greatest number that passes a test, of those from `low` to `low` + n; `low` where none above it does.
abbrev pub greatest_from : (ℕ → Bool) → ℕ → ℕ → ℕ
greatest_from test low zero = low
greatest_from test low (suc n) = if test (low + suc n) then low + suc n else greatest_from test low n

-- The greatest cut that a session can be shown of objects: the greatest position, from the commit to the last one, at which it lacks few
-- enough of them. At the commit it lacks none.
abbrev pub greatest_cut : List Action → ℕ → List ℕ → List ℕ → ℕ
greatest_cut A commit sent xs =
    greatest_from (λ n. nat_le (length (needed_to_see A commit sent xs n)) most_items) commit (length A - commit)

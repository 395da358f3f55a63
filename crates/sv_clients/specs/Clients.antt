-- What a server keeps of each client that ever joined.
use Rattle.std.specs.Prelude.{◌≡◌, ℕ, suc, ◌+◌, ◌-◌, nat_eq, nat_le, nat_lt, Bool, ◌&&◌, List, [], ◌∷◌, ◌++◌, map, length, drop, slice_get, Option, None, option_map, unwrap_or, if◌then◌else◌}
use Rattle.indexmap.specs.IndexMap.{get, index_map_len}
use Rattle.sv_journal.specs.History.{Outcome, Accepted, Dropped, Denied}
use Rattle.sv_journal.specs.Sessions.{outcome_at, kept_count}
use Rattle.sv_clients.specs.declared.clients.Clients.{Clients}
use Rattle.sv_clients.specs.declared.outcome.Outcome.{Outcome as OutcomeRow}
use Rattle.sv_clients.specs.declared.outcome.Outcome.TheVariants as rows
use Rattle.sv_clients.specs.declared.row.ClientRow.{ClientRow}

-- What is kept of a client.
pub record KeptClient : Type 0 where
  pub life : ℕ  -- the greatest life that it joined with
  pub count : ℕ  -- how many of its actions have an outcome
  pub kept : List Outcome  -- the last of these outcomes, in order

abbrev pub outcome_value : OutcomeRow → Outcome
outcome_value (rows.Accepted p) = Accepted p
outcome_value (rows.Dropped chain far) = Dropped chain far
outcome_value (rows.Denied object) = Denied object.0

abbrev pub view_of : ClientRow → KeptClient
view_of row = record { life = row.life; count = row.count; kept = map outcome_value row.kept.items }

-- That of a client that never joined.
abbrev pub no_client : KeptClient
no_client = record { life = 0; count = 0; kept = [] }

-- What is kept of a client, by its number.
abbrev pub client_row : Clients → ℕ → KeptClient
client_row clients k = unwrap_or (option_map view_of (get nat_eq clients.rows k)) no_client

-- How many clients there is a row of.
abbrev pub row_count : Clients → ℕ
row_count clients = index_map_len clients.rows

-- The last n elements, all where there are not so many.
abbrev pub last_of : {A : Type 0} → ℕ → List A → List A
last_of n xs = drop (length xs - n) xs

-- Of outcomes in order a row keeps their number, and the last of them.
pub record KeepsOutcomes (outcomes : List Outcome) (row : KeptClient) : Type 0 where
  pub count : row.count ≡ length outcomes
  pub kept : row.kept ≡ last_of kept_count outcomes

-- A row with one more outcome.
abbrev pub with_outcome : Outcome → KeptClient → KeptClient
with_outcome outcome row = record row { count = suc row.count; kept = last_of kept_count (row.kept ++ outcome ∷ []) }

-- The outcome of a sequence number, as a row has it.
abbrev pub is_told : KeptClient → ℕ → Bool
is_told row seq = nat_le seq row.count && nat_lt row.count (seq + length row.kept)

abbrev pub told : KeptClient → ℕ → Option Outcome
told row seq = if is_told row seq then slice_get row.kept (seq + length row.kept - row.count - 1) else None

-- Of outcomes in order, that of a sequence number, where it is one of the last that are kept.
abbrev pub kept_among : List Outcome → ℕ → Option Outcome
kept_among outcomes seq = if nat_le (suc (length outcomes)) (seq + kept_count) then outcome_at outcomes seq else None

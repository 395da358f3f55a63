-- The limits of the subject: how many there may be of what. `src/limits.rt` has the same numbers for code.
use Rattle.std.specs.Prelude.{ℕ, ℤ, pos, negsuc}

-- The objects of a world.
abbrev pub most_objects : ℕ
most_objects = 65535

-- The objects of a scenario's world.
abbrev pub most_scenario_objects : ℕ
most_scenario_objects = 4096

-- The attributes of an object.
abbrev pub most_attrs : ℕ
most_attrs = 4

-- The objects that an action reads.
abbrev pub most_reads : ℕ
most_reads = 16

-- The nodes of an action's body.
abbrev pub most_nodes : ℕ
most_nodes = 64

-- The levels of an action's body: how deep its nodes are nested.
abbrev pub most_depth : ℕ
most_depth = 8

-- The clients of a scenario.
abbrev pub most_clients : ℕ
most_clients = 32

-- The sessions of a scenario, over all clients.
abbrev pub most_sessions : ℕ
most_sessions = 64

-- The sessions of a server that are open at once.
abbrev pub most_open : ℕ
most_open = 1024

-- The greatest bound on the actions that influence an action, itself not counted.
abbrev pub most_bound : ℕ
most_bound = 32

-- The greatest reach: no two places in the plane are farther apart.
abbrev pub most_reach : ℕ
most_reach = 2000000

-- The least and the greatest coordinate of a place in the plane: 1,000,000 from its middle.
abbrev pub least_coordinate : ℤ
least_coordinate = negsuc 999999

abbrev pub greatest_coordinate : ℤ
greatest_coordinate = pos 1000000

-- The numbers that the clients of a living world may have, from 0 on.
abbrev pub client_numbers : ℕ
client_numbers = 65536

-- The objects of a client's interest.
abbrev pub most_interest : ℕ
most_interest = 64

-- The requests of a scenario's session.
abbrev pub most_requests : ℕ
most_requests = 1024

-- The actions of a relay, which are one and those that influence it; so too the results of a report.
abbrev pub most_items : ℕ
most_items = 33

-- The positions of a world's actions; and the numbers of one client's actions.
abbrev pub most_positions : ℕ
most_positions = 4294967294

-- The actions of a client that are not settled yet.
abbrev pub most_pending : ℕ
most_pending = 8

-- The requests of a client that have no reply yet.
abbrev pub most_outstanding : ℕ
most_outstanding = 16

-- The steps of a script.
abbrev pub most_steps : ℕ
most_steps = 256

-- The objects that a step shows.
abbrev pub most_shown : ℕ
most_shown = 16

-- The turns of a schedule.
abbrev pub most_turns : ℕ
most_turns = 16384

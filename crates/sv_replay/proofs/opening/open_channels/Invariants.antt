-- The connections so far are new.
use Rattle.std.proofs.Common.{◌≡◌, ℕ, length, get_or}
use Rattle.sv_exchange.specs.View.{new_exchange}
use Rattle.sv_replay.proofs.opening.open_channels.Given as goal

abbrev pub invariant-loop : goal.invariant-loop
invariant-loop l = record { count : length l.channels.items ≡ l.counter; new : (s : ℕ) → get_or l.channels.items s new_exchange ≡ new_exchange }

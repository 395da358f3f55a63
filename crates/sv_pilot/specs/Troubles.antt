-- What a fault of the client is to a game.
use Rattle.std.specs.Prelude.{◌≢◌}
use Rattle.sv_text.specs.declared.fault.ParseFault.{ParseFault}
use Rattle.sv_text.specs.declared.fault.ParseFault.TheVariants as parse_faults
use Rattle.sv_client.specs.declared.fault.MakeFault.{MakeFault}
use Rattle.sv_client.specs.declared.fault.MakeFault.TheVariants as make_faults
use Rattle.sv_client.specs.declared.fault.ObserveFault.{ObserveFault}
use Rattle.sv_client.specs.declared.fault.ObserveFault.TheVariants as observe_faults
use Rattle.sv_client.specs.declared.fault.PollFault.{PollFault}
use Rattle.sv_client.specs.declared.fault.PollFault.TheVariants as poll_faults
use Rattle.sv_client.specs.declared.fault.TakeFault.{TakeFault}
use Rattle.sv_client.specs.declared.fault.TakeFault.TheVariants as take_faults
use Rattle.sv_pilot.specs.declared.trouble.Trouble.{Trouble}
use Rattle.sv_pilot.specs.declared.trouble.Trouble.TheVariants as troubles

-- A reply that is not taken is the server's, but for memory.
abbrev pub trouble_of_take : TakeFault → Trouble
trouble_of_take take_faults.Memory = troubles.Memory
trouble_of_take _ = troubles.Reply

-- What may not be asked is the game's, but for memory.
abbrev pub trouble_of_make : MakeFault → Trouble
trouble_of_make make_faults.Memory = troubles.Memory
trouble_of_make _ = troubles.Game

abbrev pub trouble_of_poll : PollFault → Trouble
trouble_of_poll poll_faults.Memory = troubles.Memory
trouble_of_poll poll_faults.Busy = troubles.Game

abbrev pub trouble_of_observe : ObserveFault → Trouble
trouble_of_observe observe_faults.Memory = troubles.Memory
trouble_of_observe observe_faults.BadObjects = troubles.Game
trouble_of_observe observe_faults.Busy = troubles.Game

-- A text that is none of an action is the game's, but for memory.
abbrev pub trouble_of_text : ParseFault → Trouble
trouble_of_text parse_faults.Memory = troubles.Memory
trouble_of_text (parse_faults.Text fault) = troubles.Game

-- it is no fault of the game
abbrev pub IsNotOfGame : Trouble → Type 0
IsNotOfGame trouble = trouble ≢ troubles.Game

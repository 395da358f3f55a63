-- What a living world's fields keep.
use Rattle.sv_living.specs.declared.living.LivingCore.TheInside.{Inside}
use Rattle.sv_living.specs.Keeping.{rules_at, stewardship_at, KeepsLiving}
use Rattle.sv_living.specs.World.{WorldView}

abbrev pub world_of : Inside → WorldView
world_of a = record { rules = rules_at a.live; stewardship = stewardship_at a.live; history = a.past }

-- What is live stands where the history leads.
abbrev pub IsLiving : Inside → Type 0
IsLiving a = KeepsLiving a.live a.past

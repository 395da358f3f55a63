-- What is counted.
use Rattle.std.specs.Prelude.{ℕ, ◌+◌, ◌-◌, ◌^◌, min}
use Rattle.sv_wire.specs.declared.message.Reply.{Reply}
use Rattle.sv_wire.specs.declared.message.Reply.TheVariants as reply
use Rattle.sv_site.specs.declared.counts.Counts.{Counts}

-- so many more, and at most the greatest number
abbrev pub more : ℕ → ℕ → ℕ
more count by = min (count + by) (2 ^ 64 - 1)

-- a reply by which an action has its outcome is counted
abbrev pub counted : Counts → Reply → Counts
counted counts (reply.Dropped seq chain far) = record counts { dropped = more counts.dropped 1 }
counted counts (reply.Denied seq object) = record counts { denied = more counts.denied 1 }
counted counts _ = counts

-- Histories that only contracts know.
use Rattle.std.specs.Prelude.{ℕ, List, map, take}
use Rattle.std.specs.List.{flat_map}
use Rattle.std.proofs.Common.{Global, Vec}
use Rattle.sv_wire.specs.declared.message.Reply.{Reply}

-- the replies that were logged
abbrev pub replies_of : List (Reply × Unit {0}) → List Reply
replies_of logged = map (λ l. l.0) logged

-- the bytes that were sent: each time so many of those that waited
abbrev pub bytes_of : List (Vec ℕ Global × ℕ) → List ℕ
bytes_of logged = flat_map (λ l. take l.1 l.0.items) logged

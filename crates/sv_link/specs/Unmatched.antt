-- The pairs of a net that did not match, by what their ends kept.
use Rattle.std.specs.Prelude.{List, map}
use Rattle.sv_link.specs.Logs.{told_of}
use Rattle.sv_link.specs.Nets.{BothEnds, both_ends}
use Rattle.sv_link.specs.declared.log.EndLog.{EndLog}

abbrev pub ends_of : EndLog → EndLog → BothEnds
ends_of server client = both_ends (told_of server) server.faults (told_of client) client.faults

abbrev pub unmatched_in : List (EndLog × EndLog) → List BothEnds
unmatched_in logs = map (λ (p : EndLog × EndLog). ends_of p.0 p.1) logs

-- The lines on standard error.
use Rattle.std.specs.Prelude.{ℕ, List, ◌++◌, codes, string_bytes}
use Rattle.std.specs.Fmt.{decimal}
use Rattle.sv_keys.specs.Keeping.{keys_line}
use Rattle.sv_keys.specs.declared.fault.KeysFault.TheVariants as faults
use Rattle.sv_host.specs.declared.ending.HostEnd.{HostEnd}
use Rattle.sv_host.specs.declared.ending.HostEnd.TheVariants as endings

-- A line that tells how a world stands: its last entry, and the commit.
abbrev pub standing_line : List ℕ → List ℕ → ℕ → ℕ → List ℕ
standing_line word name entries commit = word ++ codes " " ++ name ++ codes ", entry " ++ decimal entries ++ codes ", commit " ++ decimal commit ++ codes "\n"

-- The line that tells that anybody may join.
abbrev pub open_line : List ℕ
open_line = codes "anybody may join: there are no keys\n"

-- The line that tells of an ending.
abbrev pub ending_line : HostEnd → List ℕ
ending_line (endings.Done stopped) = standing_line (codes "stop") (string_bytes stopped.folder) stopped.entries stopped.commit
ending_line endings.Words = codes "words: host WORLD DIR [OPTION ..]\n"
ending_line (endings.World line) = string_bytes line
ending_line (endings.Keys name line) = keys_line (string_bytes name) (faults.Line line)
ending_line (endings.File name) = codes "file: " ++ string_bytes name ++ codes "\n"
ending_line endings.Link = codes "link\n"
ending_line endings.Memory = codes "memory\n"
ending_line (endings.Disk name) = codes "log: " ++ string_bytes name ++ codes "\n"
ending_line (endings.Log place) = codes "log: " ++ string_bytes place ++ codes "\n"
ending_line (endings.Busy name) = codes "busy: " ++ string_bytes name ++ codes "\n"

-- The status of an ending.
abbrev pub status_of : HostEnd → ℕ
status_of (endings.Done stopped) = 0
status_of endings.Words = 2
status_of (endings.World line) = 3
status_of (endings.Keys name line) = 3
status_of (endings.File name) = 4
status_of (endings.Disk name) = 5
status_of endings.Link = 6
status_of endings.Memory = 8
status_of (endings.Log place) = 13
status_of (endings.Busy name) = 14

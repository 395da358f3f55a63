-- What is printed of why an object has its value. Each line ends with a line feed.
use Rattle.std.specs.Prelude.{ℕ, ℤ, List, ◌++◌, codes}
use Rattle.std.specs.Fmt.{decimal}
use Rattle.std.specs.List.{flat_map}
use Rattle.sv_text.specs.Canonical.{canonical}
use Rattle.sv_journal.specs.History.{Authored, authored_at}
use Rattle.sv_journal.specs.Pieces.{held_text}

-- `2 c1.1 reads 0 writes 0 { .. }`: a position, its author with the author's number for it, and the action.
abbrev pub reason_line : List Authored → ℕ → List ℕ
reason_line A p =
    decimal p ++ codes " c" ++ decimal (authored_at A p).client ++ codes "." ++ decimal (authored_at A p).seq ++ codes " " ++ canonical (authored_at A p).action ++ codes "\n"

-- A line for each position, and then `value 0=(21)`.
abbrev pub why_text : List Authored → ℕ → List ℕ → List ℤ → List ℕ
why_text A object positions value = flat_map (reason_line A) positions ++ codes "value " ++ held_text object value ++ codes "\n"

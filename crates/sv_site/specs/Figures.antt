-- What `/status` tells, as a JSON object.
use Rattle.std.specs.Prelude.{ℕ, ◌-◌, List, ◌++◌, codes}
use Rattle.std.specs.Fmt.{decimal}
use Rattle.sv_site.specs.declared.figures.Figures.{Figures}

-- a name with its number, and what stands behind it
unfoldable pub figure : List ℕ → ℕ → List ℕ → List ℕ
figure name number behind = codes "\"" ++ name ++ codes "\":" ++ decimal number ++ behind

unfoldable pub sessions_text : Figures → List ℕ
sessions_text f =
    figure (codes "clients") f.clients (codes ",")
    ++ figure (codes "sessions") f.sessions (codes ",")
    ++ figure (codes "open") f.open (codes ",")

unfoldable pub actions_text : Figures → List ℕ
actions_text f =
    figure (codes "entries") f.entries (codes ",")
    ++ figure (codes "accepted") f.accepted (codes ",")
    ++ figure (codes "dropped") f.counts.dropped (codes ",")
    ++ figure (codes "denied") f.counts.denied (codes ",")

unfoldable pub commit_text : Figures → List ℕ
commit_text f = figure (codes "commit") f.commit (codes ",") ++ figure (codes "uncommitted") (f.accepted - f.commit) (codes ",")

unfoldable pub bytes_text : Figures → List ℕ
bytes_text f =
    figure (codes "reported_by_steward") f.counts.reported_by_steward (codes ",")
    ++ figure (codes "bytes_in") f.counts.bytes_in (codes ",")
    ++ figure (codes "bytes_out") f.counts.bytes_out (codes ",")

unfoldable pub log_text : Figures → List ℕ
log_text f = figure (codes "log_bytes") f.log_bytes (codes ",") ++ figure (codes "syncs") f.syncs (codes ",")

unfoldable pub process_text : Figures → List ℕ
process_text f =
    figure (codes "refused_connections") f.counts.refused_connections (codes ",") ++ figure (codes "seconds") f.seconds (codes "}\n")

-- the object, with its keys in this order
abbrev pub status_text : Figures → List ℕ
status_text f =
    codes "{" ++ sessions_text f ++ actions_text f ++ commit_text f ++ bytes_text f ++ log_text f ++ process_text f

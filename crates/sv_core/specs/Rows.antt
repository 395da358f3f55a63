-- What a core keeps of each session, and what an entry makes of it.
-- The sessions of a core sit at slots: the row of a slot is that of the session that sits there.
use Rattle.std.specs.Prelude.{◌≡◌, ℕ, ◌+◌, ◌-◌, Bool, false, ◌&&◌, ◌||◌, not, ◌==◌, List, [], ◌∷◌, slice_index_or, Option, None, Some, is_some, option_map, if◌then◌else◌}
use Rattle.std.specs.List.{list_any}
use Rattle.sv_journal.specs.declared.entry.Entry.{Entry}
use Rattle.sv_journal.specs.History.{either, is_welcome, joining, client_of}
use Rattle.sv_journal.specs.Sessions.{is_last, welcomes, is_over, is_end, is_ended, asked_in}
use Rattle.sv_journal.specs.Answer.{Rules}
use Rattle.sv_core.specs.declared.sessions.SessionRow.{SessionRow}

-- How many requests a session may still make, where there is an end of them.
abbrev pub requests_left : Rules → List Entry → ℕ → Option ℕ
requests_left r h s = option_map (λ most. most - asked_in h s) r.requests

-- The row of a slot where no session sits.
abbrev pub no_session : SessionRow
no_session = record { session = None; client = None; over = false; left = None; ended = false }

-- The row of a session that has asked nothing, and may make so many requests.
abbrev pub new_session : Option ℕ → ℕ → SessionRow
new_session requests s = record { session = Some s; client = None; over = false; left = requests; ended = false }

abbrev pub row_at : List SessionRow → ℕ → SessionRow
row_at rows slot = slice_index_or rows slot no_session

-- The number of the session that sits at a slot.
abbrev pub seat_in : List SessionRow → ℕ → Option ℕ
seat_in rows slot = (row_at rows slot).session

-- A row after an entry, which may be that of its own session.
abbrev pub session_after : Bool → Entry → SessionRow → SessionRow
session_after own e r = record {
  session = r.session;
  client = either r.client (if own && is_welcome e.reply then joining e.request else None);
  over = r.over || (if own then is_last e.reply else welcomes e r.client);
  left = if own && not (is_end e.request) then option_map (λ n. n - 1) r.left else r.left;
  ended = (own && is_end e.request) || r.ended;
}

-- The row says of a session what the history says.
pub record IsSessionRow (r : Rules) (h : List Entry) (s : ℕ) (row : SessionRow) : Type 0 where
  pub client : row.client ≡ client_of h s
  pub over : row.over ≡ is_over h s
  pub left : row.left ≡ requests_left r h s
  pub ended : row.ended ≡ is_ended h s

-- A session has an entry.
abbrev pub has_entry : List Entry → ℕ → Bool
has_entry h s = list_any (λ (e : Entry). e.session == s) h

-- ---- How many sessions there are

abbrev pub is_seated : SessionRow → Bool
is_seated row = is_some row.session

-- A session sits there that had no End.
abbrev pub owes_end : SessionRow → Bool
owes_end row = is_some row.session && not row.ended

abbrev pub count_rows : (SessionRow → Bool) → List SessionRow → ℕ
count_rows test [] = 0
count_rows test (row ∷ rows) = (if test row then 1 else 0) + count_rows test rows

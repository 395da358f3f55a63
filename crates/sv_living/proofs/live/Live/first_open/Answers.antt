-- The table has just the open sessions, in order.
use Rattle.std.proofs.Common.{◌≡◌, ℕ, List, [], ◌∷◌, map, Option, Some, None, MatchOption, sym, ◌∙◌, ap}
use Rattle.sv_journal.specs.declared.entry.Entry.{Entry}
use Rattle.sv_core.specs.declared.seats.Seat.{Seat}
use Rattle.sv_living.specs.Quiet.{IsFirstOpen}
use Rattle.sv_living.specs.Sessions.{open_sessions}
use Rattle.sv_living.specs.Table.{numbers_in}
use Rattle.sv_living.proofs.Turns.{numbers-are}
use Rattle.sv_living.proofs.live.Live.first_open.Goals as goal

first-is : (h : List Entry) (seats : List Seat) → numbers_in seats ≡ open_sessions h → (o : Option ℕ) →
    MatchOption o (seats ≡ []) (λ s. (rest : List ℕ) × (numbers_in seats ≡ s ∷ rest)) → IsFirstOpen h o
first-is h seats same None is = sym same ∙ ap numbers_in is
first-is h seats same (Some s) is = (is.0, sym same ∙ is.1)

pub returns : goal.returns
returns c h keeps =
    let l = c.args.self.now in
    first-is h l.table (numbers-are l.core h l.table l.next keeps.table keeps.next) c.first.result c.first.ensures

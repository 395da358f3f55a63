-- A session that is done has the bytes of its trace and its journal.
use Rattle.std.specs.Prelude.{reverse}
use Rattle.std.proofs.lemmas.List.Elements.{recursion_from_All}
use Rattle.sv_wire.specs.Laws.{IsReply}
use Rattle.sv_journal.specs.History.{accepted}
use Rattle.law_system.specs.Fits.{replies_in}
use Rattle.law_traffic.proofs.Bytes.{traffic_of, fits_of, ends_are}
use Rattle.law_traffic.proofs.sessions.session_traffic_is_recorded.Goals as goal

pub returns-clause-traffic : goal.returns-clause-traffic
returns-clause-traffic c =
    λ journal L s x d sendable.
    traffic_of c.full_replies_stay.ensures c.legal_relays_name_accepted.ensures journal L s x d (recursion_from_All IsReply (replies_in (accepted (reverse journal)) (reverse journal) s) sendable)

pub returns-clause-fits : goal.returns-clause-fits
returns-clause-fits c =
    λ journal L s x d sendable.
    fits_of c.full_replies_stay.ensures c.legal_relays_name_accepted.ensures journal L s x d (recursion_from_All IsReply (replies_in (accepted (reverse journal)) (reverse journal) s) sendable)

pub returns-clause-ends : goal.returns-clause-ends
returns-clause-ends c = λ journal L s x d. ends_are c.full_replies_stay.ensures c.legal_relays_name_accepted.ensures journal L s x d

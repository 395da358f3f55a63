-- What is proved by hand of `Player::do_part`.
use Rattle.std.proofs.Common.{sym, subst}
use Rattle.std.proofs.lemmas.Result.{err_from_is_err_and}
use Rattle.sv_client.specs.declared.trace.Event.{Event}
use Rattle.sv_client.specs.Seen.{latest_session}
use Rattle.sv_player.specs.declared.outcome.SessionEnd.{SessionEnd}
use Rattle.sv_player.specs.declared.outcome.PlayerCause.TheVariants as causes
use Rattle.sv_player.specs.Going.{Did}
use Rattle.sv_player.specs.Sessions.{Ended}
use Rattle.sv_player.proofs.Going.{few_counted}
use Rattle.sv_player.proofs.Receiving.{stops_at}
use Rattle.sv_player.proofs.Moving.{part_ends}
use Rattle.sv_player.proofs.playing.Player.do_part.Goals as goal

pub note-requires : goal.note-requires
note-requires g c = record { count = few_counted c.args.self.now c.requires.at.going }

pub returns-in_err-send_all-clause-played : goal.returns-in_err-send_all-clause-played
returns-in_err-send_all-clause-played g c =
    let failed = err_from_is_err_and c.from_residual.result c.from_residual.ensures.1 in
    rw (failed.1, failed.2) c.in_err-send_all.ensures.still

pub returns-in_err-note-clause-played : goal.returns-in_err-note-clause-played
returns-in_err-note-clause-played g c =
    let p = c.args.self.now in
    let failed = err_from_is_err_and c.from_residual-in_err-note.result c.from_residual-in_err-note.ensures.1 in
    rw (failed.1, failed.2, c.in_err-note.ensures.err)
    (stops_at (latest_session p.client.events) p c.send_all.new.buffers (g.E.End.told c.send_all.new.end) causes.Memory c.in_ok-send_all.ensures.still c.requires.ready.here_is
    c.in_ok-send_all.ensures.sent tt)

pub returns-clause-played : goal.returns-clause-played
returns-clause-played g c =
    let p = c.args.self.now in
    let q = c.note.new.self in
    let s = latest_session p.client.events in
    let new = g.E.End.told c.send_all.new.end in
    let did = subst (λ (e : Event). Did e c.args.rest.now p q) c.mark.ensures c.in_ok-note.ensures.ok in
    subst (λ (e : SessionEnd). Ended s p q new e) (sym c.ending.ensures)
    (part_ends s p q c.send_all.new.buffers new c.in_ok-send_all.ensures.still c.requires.ready c.in_ok-send_all.ensures.sent c.args.rest.now c.args.parting c.requires.next did)

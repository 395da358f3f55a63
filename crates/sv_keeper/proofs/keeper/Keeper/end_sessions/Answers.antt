-- Each End leaves one session fewer.
use Rattle.std.proofs.Common.{◌≡◌, ◌<◌, length, Option, None, ℕ, sym, subst, ◌∙◌}
use Rattle.sv_wire.specs.declared.message.Request.TheVariants as requests
use Rattle.sv_living.specs.Sessions.{open_sessions}
use Rattle.sv_living.specs.World.{WorldView, reply_in}
use Rattle.sv_living.specs.Quiet.{IsFirstOpen}
use Rattle.sv_keeper.specs.Opened.{AreEnded, AreEnded.none, AreEnded.some}
use Rattle.sv_keeper.proofs.Ended.{fewer_open}
use Rattle.sv_keeper.proofs.keeper.Keeper.end_sessions.Goals as goal

pub loop-session-smaller : goal.loop-session-smaller
loop-session-smaller g c =
    let v = c.loop-session.self.world in
    let s = c.in-Some.session in
    subst (λ (w : WorldView). length (open_sessions w.history) < length (open_sessions v.history)) (sym c.in-Ok.ensures.ok.world)
    (fewer_open v.history s (reply_in v s requests.End) c.in-Some.ensures.0 c.in-Some.ensures.1)

pub loop-session-preserved : goal.loop-session-preserved
loop-session-preserved g c =
    let before = c.loop-session.invariant in
    let ok = c.in-Ok.ensures.ok in
    (ok.sound, ok.log ∙ before.1, ok.synced ∙ before.2, λ w ended. before.3 w (AreEnded.some c.in-Some.ensures.1 (subst (λ (u : WorldView). AreEnded u w) ok.world ended)))

pub returns-clause-ended : goal.returns-clause-ended
returns-clause-ended g c =
    c.loop-session.invariant.3 c.loop-session.self.world
    (AreEnded.none (subst (λ (o : Option ℕ). IsFirstOpen c.loop-session.self.world.history o) c.in_default.is c.first_open.ensures))

-- As many requests are outstanding as of the player.
use Rattle.std.proofs.Common.{List, length, sym, ap, ◌∙◌}
use Rattle.std.specs.Prelude.{nat_lt}
use Rattle.sv_wire.specs.declared.message.Request.{Request}
use Rattle.sv_client.proofs.Shifts.{up_outstanding}
use Rattle.sv_replay.proofs.playing.Playing.is_calm.Goals as goal

pub returns : goal.returns
returns c =
    let p = c.args.self.now in
    ap (λ n. nat_lt n 16) (c.outstanding.ensures.exact ∙ ap (λ (rs : List Request). length rs) (sym (up_outstanding p.first p.client.who p.client.events)))

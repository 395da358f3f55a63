-- What is proved by hand of `tell_change`.
use Rattle.std.proofs.Common.{sym, ap, ◌∙◌}
use Rattle.sv_script.specs.Telling.{same_view}
use Rattle.sv_player.proofs.Seeing.{still_seen}
use Rattle.sv_player.proofs.telling.tell_change.Goals as goal

pub returns-then-is_same-clause-seen : goal.returns-then-is_same-clause-seen
returns-then-is_same-clause-seen g c =
    let seen = c.args.seen.now in
    still_seen c.args.client.now.events seen (sym (c.if-is_same.ensures ∙ ap (same_view seen.view) c.view-now.ensures))

-- What is proved by hand of `ends_as_own`.
use Rattle.std.proofs.Common.{option_map, option_copied, sym, ap, ◌∙◌}
use Rattle.sv_pending.specs.Seen.{item_seen}
use Rattle.sv_client.proofs.Lasts.{own_is}
use Rattle.sv_client.proofs.checks.ends_as_own.Goals as goal

pub returns-in-Some-last : goal.returns-in-Some-last
returns-in-Some-last c =
    c.is_own.ensures
    ∙ own_is c.args.id (item_seen c.in-Some.front) c.args.pending.now.items c.args.items.now c.in-Some-last.item.now
    (sym c.front.ensures ∙ ap (option_map item_seen) c.in-Some.is) (sym c.last.ensures.value ∙ ap option_copied c.in-Some-last.is)

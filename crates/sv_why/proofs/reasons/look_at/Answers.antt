-- What is proved by hand of `look_at`.
use Rattle.std.proofs.Common.{refl, reverse}
use Rattle.sv_journal.specs.History.{actions_of}
use Rattle.sv_why.specs.Walks.{is_wanted}
use Rattle.sv_why.proofs.Wanting.{looked-found, looked-passed}
use Rattle.sv_why.proofs.reasons.look_at.Goals as goal

pub returns-in_ok-push-clause-walked : goal.returns-in_ok-push-clause-walked
returns-in_ok-push-clause-walked c =
    looked-found (actions_of (reverse c.args.journal.now.entries)) c.args.at c.accepted-action.result.now c.as_slice.result.now (is_wanted c.args.wanted.now) (is_wanted c.want_all.new.wanted)
    c.writes_wanted.result c.requires.first c.accepted-action.ensures c.as_slice.ensures c.writes_wanted.ensures
    c.as_slice-then-writes_wanted.result.now c.args.found.now.items c.push.new.self.items c.if-writes_wanted.true c.as_slice-then-writes_wanted.ensures c.want_all.ensures.marked c.in_ok-push.ensures.items

pub returns-else-writes_wanted-clause-walked : goal.returns-else-writes_wanted-clause-walked
returns-else-writes_wanted-clause-walked c =
    looked-passed (actions_of (reverse c.args.journal.now.entries)) c.args.at c.accepted-action.result.now c.as_slice.result.now (is_wanted c.args.wanted.now) (is_wanted c.args.wanted.now)
    c.writes_wanted.result c.requires.first c.accepted-action.ensures c.as_slice.ensures c.writes_wanted.ensures
    c.args.found.now.items c.if-writes_wanted.false (λ y. refl)

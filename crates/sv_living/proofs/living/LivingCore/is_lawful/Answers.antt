-- What is kept, and the law of rights.
use Rattle.std.proofs.Common.{All, subst}
use Rattle.sv_wire.specs.Grammar.{IsWireReply}
use Rattle.sv_journal.specs.declared.entry.Entry.{Entry}
use Rattle.sv_journal.specs.History.{accepted, full_reply}
use Rattle.sv_journal.specs.Laws.{AreWithinLimits, IsRightful}
use Rattle.sv_journal.specs.Serving.{LegalFor}
use Rattle.sv_journal.specs.Living.{living}
use Rattle.sv_journal.proofs.Stewards.{living-keeping}
use Rattle.sv_living.specs.Keeping.{rules_at, stewardship_at}
use Rattle.sv_living.specs.Sessions.{AreInOrder}
use Rattle.sv_living.specs.World.{WorldView}
use Rattle.sv_living.proofs.living.LivingCore.is_lawful.Goals as goal

pub returns-clause-legal : goal.returns-clause-legal
returns-clause-legal c = subst (λ (v : WorldView). LegalFor (living v.stewardship) v.rules v.history) c.self.view_is c.self.invariant.legal

pub returns-clause-order : goal.returns-clause-order
returns-clause-order c = subst (λ (v : WorldView). AreInOrder v.history) c.self.view_is c.self.invariant.order

pub returns-clause-rightful : goal.returns-clause-rightful
returns-clause-rightful c =
    let w = stewardship_at c.self.inside.live in
    subst (λ (v : WorldView). All (IsRightful v.rules) (accepted v.history)) c.self.view_is
    (c.accepted_actions_are_rightful.ensures.served (living w) (rules_at c.self.inside.live) c.self.inside.past (living-keeping w) c.self.invariant.legal)

pub returns-clause-messages : goal.returns-clause-messages
returns-clause-messages c =
    let w = stewardship_at c.self.inside.live in
    subst (λ (v : WorldView). AreWithinLimits v.rules → All (λ (e : Entry). IsWireReply (full_reply (accepted v.history) e.reply)) v.history) c.self.view_is
    (λ limits. c.served_replies_are_messages.ensures (living w) (rules_at c.self.inside.live) c.self.inside.past (living-keeping w) limits c.self.invariant.legal)

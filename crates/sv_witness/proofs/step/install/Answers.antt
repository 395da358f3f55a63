-- What the check leaves to prove of `install`.
use Rattle.std.proofs.Common.{◌≡◌, false, List, refl, sym, subst}
use Rattle.std.specs.List.{list_any}
use Rattle.sv_wire.specs.declared.message.Done1.{Done1}
use Rattle.sv_wire.specs.declared.message.Request.TheVariants as requests
use Rattle.sv_journal.specs.Answer.{is_bad_result}
use Rattle.sv_core.specs.declared.decision.Decision.TheVariants as decisions
use Rattle.sv_core.specs.Cores.{core_rules}
use Rattle.sv_sequencer.specs.Entering.{EnteredReply}
use Rattle.sv_witness.specs.Reports.{agreed_history}
use Rattle.sv_witness.proofs.Installed.{install-good, install-once, installed}
use Rattle.sv_witness.proofs.step.install.Goals as goal

pub enter_asked-entered-requires : goal.enter_asked-entered-requires
enter_asked-entered-requires g c =
    let n = c.args.noting in
    let r = c.requires in
    let standing = r.0 in (
      standing.keeps,
      (
        r.1.0,
        (
          refl,
          (
            refl,
            subst (λ (l : List Done1). list_any (is_bad_result (core_rules c.args.core.now) (agreed_history g.h) n.asker.session) l ≡ false) (sym c.from_vec.ensures)
                (install-good c.args.core.now c.args.testimony.now.reports c.args.testimony.now.disputes.items g.h n.asker.session n.asker.client c.args.request n.counted.items n.agreed.items n.disputes.items
                standing r.1.1.0 r.1.1.1.0 r.1.1.1.1.0 r.1.1.1.1.1.0 r.1.1.1.1.1.1.0 r.1.1.1.1.1.1.1.0 r.1.1.1.1.1.1.1.1.0),
          ),
        ),
      ),
    )

pub add_all-requires-clause-once : goal.add_all-requires-clause-once
add_all-requires-clause-once g c =
    let n = c.args.noting in
    let r = c.requires in
    install-once c.args.core.now c.args.testimony.now.reports c.args.testimony.now.disputes.items g.h n.asker.session n.asker.client c.args.request n.counted.items n.agreed.items n.disputes.items
    r.0 r.1.1.0 r.1.1.1.0 r.1.1.1.1.0 r.1.1.1.1.1.0 r.1.1.1.1.1.1.0 r.1.1.1.1.1.1.1.0 r.1.1.1.1.1.1.1.1.0

pub returns-in-Ok-clause-ok : goal.returns-in-Ok-clause-ok
returns-in-Ok-clause-ok g c =
    let n = c.args.noting in
    let r = c.requires in
    installed c.args.core.now c.args.testimony.now.reports c.args.testimony.now.disputes.items g.h n.asker.session n.asker.client c.args.request n.counted.items n.agreed.items n.disputes.items
    r.0 r.1.1.0 r.1.1.1.0 r.1.1.1.1.0 r.1.1.1.1.1.0 r.1.1.1.1.1.1.0 r.1.1.1.1.1.1.1.0 r.1.1.1.1.1.1.1.1.0 c.enter_asked-entered.new.core c.args.journal.now c.enter_asked-entered.new.journal c.in-Ok.reply
    (subst (λ (l : List Done1). EnteredReply c.args.core.now c.enter_asked-entered.new.core c.args.journal.now c.enter_asked-entered.new.journal (agreed_history g.h) n.asker.session c.args.request
    (requests.Done l) decisions.Note c.in-Ok.reply) c.from_vec.ensures c.in-Ok.ensures.ok)
    c.commit.result c.add_all.new.reports c.forget.new.self c.enter_all.new.disputes.items c.commit.ensures c.add_all.ensures c.forget.ensures c.enter_all.ensures

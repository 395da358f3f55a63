-- What the check leaves to prove of `Sequencer::is_ended`.
use Rattle.std.proofs.Common.{◌≡◌, ◌<◌, reverse, sym, subst}
use Rattle.sv_journal.specs.Sessions.{is_ended}
use Rattle.sv_core.specs.declared.seats.Seat.{Seat}
use Rattle.sv_core.specs.Cores.{SitsAt}
use Rattle.sv_sequencer.specs.Step.{SequencerView, history}
use Rattle.sv_sequencer.proofs.Stepped.{sits-by-view}
use Rattle.sv_sequencer.proofs.sequencer.Sequencer.is_ended.Goals as goal

pub is_ended-requires : goal.is_ended-requires
is_ended-requires c = subst (SitsAt c.self.inside.core) (sym c.own.ensures) (sits-by-view c.self.inside _ c.args.session c.self.view_is c.self.invariant c.requires)

pub returns : goal.returns
returns c =
    subst (λ (v : SequencerView). c.is_ended.result ≡ is_ended (history v) c.args.session) c.self.view_is
    (subst (λ (x : Seat). c.is_ended.result ≡ is_ended (reverse c.self.inside.journal.entries) x.session) c.own.ensures
    (c.is_ended.ensures (reverse c.self.inside.journal.entries) c.self.invariant.keeps))

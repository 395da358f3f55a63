-- A server that hears lies answers what it hears.
use Rattle.std.proofs.Common.{refl, sym, ap, ◌∙◌}
use Rattle.sv_journal.specs.Sessions.{is_end}
use Rattle.sv_sequencer.specs.Step.{history}
use Rattle.sv_witness.proofs.Heard.{lied-ends}
use Rattle.sv_witness.proofs.Ran.{heard-lie, heard-truth, lying-answers}
use Rattle.sv_witness.proofs.liar.LyingServer.step.Goals as goal

pub step-requires-clause-first : goal.step-requires-clause-first
step-requires-clause-first c = λ end. c.requires.first (sym (lied-ends c.args.request) ∙ ap is_end (sym c.in_ok-lie.ensures) ∙ end)

pub step-requires-else-hears_lies-clause-first : goal.step-requires-else-hears_lies-clause-first
step-requires-else-hears_lies-clause-first c = c.requires.first

pub returns-in_ok-lie : goal.returns-in_ok-lie
returns-in_ok-lie c =
    lying-answers c.args.self.now (record c.args.self.now { witness = c.step.new.self }) c.args.session c.args.request c.in_ok-lie.lie c.step.result refl
    (heard-lie c.args.self.now.liar (history c.args.self.now.witness) c.args.session c.args.request (sym c.if-hears_lies.ensures) ∙ sym c.in_ok-lie.ensures)
    c.step.ensures.ok

pub returns-else-hears_lies : goal.returns-else-hears_lies
returns-else-hears_lies c =
    lying-answers c.args.self.now (record c.args.self.now { witness = c.step-else-hears_lies.new.self }) c.args.session c.args.request c.args.request
    c.step-else-hears_lies.result refl
    (heard-truth c.args.self.now.liar (history c.args.self.now.witness) c.args.session c.args.request (sym c.if-hears_lies.ensures))
    c.step-else-hears_lies.ensures.ok

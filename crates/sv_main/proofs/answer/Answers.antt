-- What a call says of its faults is what is asked of the command that the words name.
use Rattle.std.proofs.Common.{◌≡◌, sym, ◌∙◌, subst}
use Rattle.sv_main.specs.Answers.{Faults}
use Rattle.sv_main.specs.declared.commands.TopCall.{TopCall}
use Rattle.sv_main.proofs.answer.Goals as goal

pub returns-in-Looks-clause-faults : goal.returns-in-Looks-clause-faults
returns-in-Looks-clause-faults g c none =
    subst (λ (k : TopCall). Faults k (g.F.Files.faults c.args.files.now) (g.F.Files.faults c.looks_here.new.files) (g.K.Sink.faults c.args.out.now)
    (g.K.Sink.faults c.looks_here.new.out) c.looks_here.result) (sym c.in-Looks.is ∙ c.command.ensures) c.looks_here.ensures.faults

pub returns-in-Witness-clause-faults : goal.returns-in-Witness-clause-faults
returns-in-Witness-clause-faults g c none =
    subst (λ (k : TopCall). Faults k (g.F.Files.faults c.args.files.now) (g.F.Files.faults c.witness_here.new.files) (g.K.Sink.faults c.args.out.now)
    (g.K.Sink.faults c.witness_here.new.out) c.witness_here.result) (sym c.in-Witness.is ∙ c.command.ensures) c.witness_here.ensures.faults

pub returns-in-Check-clause-faults : goal.returns-in-Check-clause-faults
returns-in-Check-clause-faults g c none =
    subst (λ (k : TopCall). Faults k (g.F.Files.faults c.args.files.now) (g.F.Files.faults c.check_here.new.files) (g.K.Sink.faults c.args.out.now)
    (g.K.Sink.faults c.check_here.new.out) c.check_here.result) (sym c.in-Check.is ∙ c.command.ensures) c.check_here.ensures.faults

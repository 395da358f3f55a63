-- The journal can be printed.
use Rattle.std.proofs.Common.{sym, ap, subst}
use Rattle.sv_journal.specs.Text.{RelaysNameAccepted}
use Rattle.sv_serve.proofs.Steps.{named}
use Rattle.sv_serve.proofs.texts.hosted_text.Goals as goal

pub print_journal-requires : goal.print_journal-requires
print_journal-requires c =
    subst RelaysNameAccepted (ap (λ j. j.entries) (sym c.journal.ensures.journal))
    (named c.legal_relays_name_accepted.ensures c.args.sequencer.now.rules c.args.sequencer.now.journal.entries c.journal.ensures.legal)

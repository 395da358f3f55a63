-- What is proved by hand of `append_report`.
use Rattle.law_system.specs.Records.{rules_of}
use Rattle.sv_report.proofs.Traffic.{named}
use Rattle.sv_report.proofs.whole.append_report.Goals as goal

pub print_journal-requires : goal.print_journal-requires
print_journal-requires c =
    named (rules_of c.args.scenario.now) c.args.played.now.journal.entries c.legal_relays_name_accepted.ensures c.requires.traffic.legal

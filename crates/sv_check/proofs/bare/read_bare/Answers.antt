-- What is proved by hand of `read_bare`.
use Rattle.std.proofs.Common.{List, ◌++◌, sym, ap, ◌∙◌}
use Rattle.sv_journal.specs.declared.entry.Entry.{Entry}
use Rattle.sv_journal.specs.Text.{journal_text}
use Rattle.sv_check.proofs.bare.read_bare.Goals as goal

pub take_commit-requires-clause-last : goal.take_commit-requires-clause-last
take_commit-requires-clause-last c =
    c.requires.last ∙ ap (λ (es : List Entry). journal_text c.args.scenario.now.world.shape es ++ c.args.last.now) (sym c.in_ok-played.ensures.same)

-- What is proved by hand of `Served::serve`.
use Rattle.std.proofs.Common.{refl, arith}
use Rattle.sv_check.specs.Serving.{entries_of}
use Rattle.sv_check.proofs.JournalLines.{asked_none, unread_none}
use Rattle.sv_check.proofs.journal.Served.serve.Goals as goal

pub returns-then-not-may_answer-clause-told : goal.returns-then-not-may_answer-clause-told
returns-then-not-may_answer-clause-told c = (
  refl,
  asked_none c.args.scenario.now c.requires.good.sessions (entries_of c.args.self.now) (omega (arith, c.requires.few)) c.args.text.now c.args.self.now.sequencer.rules c.requires.served.rules c.in-Ok.asked
      c.in-Ok.ensures.read (c.if-not-may_answer.ensures.no refl),
)

pub returns-in-Err-Wrong-clause-told : goal.returns-in-Err-Wrong-clause-told
returns-in-Err-Wrong-clause-told c = (
  refl,
  unread_none c.args.scenario.now c.requires.good.sessions (entries_of c.args.self.now) (omega (arith, c.requires.few)) c.args.text.now c.asked_at.result c.in-Err-Wrong.field-0 c.in-Err-Wrong.is
      c.in-Err-Wrong.field-0-is c.asked_at.ensures.read,
)

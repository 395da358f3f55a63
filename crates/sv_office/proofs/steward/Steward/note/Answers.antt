-- A Done is entered, and its reply taken.
use Rattle.std.proofs.Common.{inl, ◌∙◌}
use Rattle.std.specs.Prelude.{Some}
use Rattle.sv_office.proofs.Adding.{goes_by}
use Rattle.sv_office.proofs.Getting.{alone_as, lacks_asked}
use Rattle.sv_office.proofs.steward.Steward.note.Goals as goal

pub returns-in_err-noted-clause-added : goal.returns-in_err-noted-clause-added
returns-in_err-noted-clause-added g c = goes_by c.enter.ensures.added (c.enter.ensures.serial (λ sound authority is joined. c.requires.serial is))

pub returns-in_err-take-clause-added : goal.returns-in_err-take-clause-added
returns-in_err-take-clause-added g c = goes_by c.enter.ensures.added (c.enter.ensures.serial (λ sound authority is joined. c.requires.serial is))

pub returns-clause-added : goal.returns-clause-added
returns-clause-added g c = goes_by c.enter.ensures.added (c.enter.ensures.serial (λ sound authority is joined. c.requires.serial is))

pub returns-in_err-noted-clause-alone : goal.returns-in_err-noted-clause-alone
returns-in_err-noted-clause-alone g c = λ alone. c.in_err-noted.ensures.kept c.args.self.now.session alone

pub returns-in_err-take-clause-alone : goal.returns-in_err-take-clause-alone
returns-in_err-take-clause-alone g c = λ alone.
    alone_as c.enter.new.keeper (Some c.args.session) c.take.new.self.session (c.take.ensures.session ∙ c.requires.own)
    (c.in_ok-noted.ensures.own c.args.self.now.session (inl c.requires.own) alone)

pub returns-clause-alone : goal.returns-clause-alone
returns-clause-alone g c = λ alone.
    alone_as c.enter.new.keeper (Some c.args.session) c.take.new.self.session (c.take.ensures.session ∙ c.requires.own)
    (c.in_ok-noted.ensures.own c.args.self.now.session (inl c.requires.own) alone)

pub returns-clause-told : goal.returns-clause-told
returns-clause-told g c = λ behind.
    c.in_ok-take.ensures.told c.enter.new.keeper.world
    (lacks_asked c.sessions_are_told_their_replies.ensures.taken c.args.keeper.now.world c.enter.new.keeper.world c.args.self.now.session c.args.session
    c.args.done.now c.in_ok-noted.noted c.args.self.now.client.value.events c.requires.own c.in_ok-noted.ensures.ok c.requires.told)

-- The session has its End.
use Rattle.std.proofs.Common.{refl, sym, ◌∙◌}
use Rattle.sv_office.proofs.Adding.{goes_by, goes_nowhere}
use Rattle.sv_office.proofs.Ending.{end_on}
use Rattle.sv_office.proofs.Entered.{sound_stays}
use Rattle.sv_office.proofs.Knowing.{trusted_ended}
use Rattle.sv_office.proofs.Served.{closed_shut, served_ended}
use Rattle.sv_office.proofs.office.Office.end.Goals as goal

pub returns-in_default-clause-added : goal.returns-in_default-clause-added
returns-in_default-clause-added g c = goes_nowhere refl

pub invariant_of-self : goal.invariant_of-self
invariant_of-self g c = record {
  sound = sound_stays c.enter.ensures.added refl c.args.self.now.sound;
  trusted = trusted_ended _ _ _ _ c.enter.ensures.one (c.enter.ensures.others refl) c.args.self.now.trusted;
}

pub returns-in_default-enter-clause-added : goal.returns-in_default-enter-clause-added
returns-in_default-enter-clause-added g c =
    end_on _ _ _ _ c.in-Some.is (goes_by c.enter.ensures.added (c.enter.ensures.serial (λ sound authority is joined. tt)))

pub returns-clause-served : goal.returns-clause-served
returns-clause-served g c =
    served_ended _ _ _ c.args.guest.now _ c.in-Some.is c.close.ensures.told c.close.ensures.standing refl c.in-Ok.ensures.ok.world c.requires.served

pub returns-clause-added : goal.returns-clause-added
returns-clause-added g c = end_on _ _ _ _ c.in-Some.is (goes_by c.enter.ensures.added (c.enter.ensures.serial (λ sound authority is joined. tt)))

pub returns-in_default-enter-clause-open : goal.returns-in_default-enter-clause-open
returns-in_default-enter-clause-open g c = λ lives. absurd (closed_shut _ (sym c.close.ensures.standing ∙ lives))

pub returns-clause-open : goal.returns-clause-open
returns-clause-open g c = λ lives. absurd (closed_shut _ (sym c.close.ensures.standing ∙ lives))

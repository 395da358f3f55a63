-- The steward has its session still.
use Rattle.std.proofs.Common.{refl, sym, ap, ◌∙◌}
use Rattle.sv_office.specs.Offices.{session_of}
use Rattle.sv_office.proofs.Adding.{grew}
use Rattle.sv_office.proofs.Entered.{sound_stays}
use Rattle.sv_office.proofs.Knowing.{trusted_own}
use Rattle.sv_office.proofs.office.Office.report_once.Goals as goal

pub invariant_of-self-2 : goal.invariant_of-self-2
invariant_of-self-2 g c = record {
  sound = sound_stays (grew c.report.ensures.added) (c.report.ensures.session ∙ sym (ap session_of c.in-Some.is)) c.args.self.now.sound;
  trusted =
      trusted_own _ _ _ _ c.in-Some.steward c.report.new.self c.in-Some.is refl c.report.ensures.alone (λ told. c.report.ensures.told) c.args.self.now.trusted;
}

pub report-requires-clause-told : goal.report-requires-clause-told
report-requires-clause-told g c = c.args.self.now.trusted.told _ c.in-Some.is

-- What is proved by hand of `Pilot::act`.
use Rattle.std.proofs.Common.{◌≡◌, ◌≤◌, ◌⊎◌, inr, length}
use Rattle.std.specs.Prelude.{IfErr}
use Rattle.sv_pilot.specs.declared.trouble.Trouble.{Trouble}
use Rattle.sv_pilot.specs.declared.trouble.Trouble.TheVariants as troubles
use Rattle.sv_client.specs.Traces.{makes}
use Rattle.sv_client.specs.Proper.{most_numbers}
use Rattle.sv_pilot.specs.Doings.{StoppedAction, NoneMayBeMade, text_limit}
use Rattle.sv_pilot.proofs.Making.{none_made_or, stopped_text, weaken_err, made_text, text_nothing, text_refused}
use Rattle.sv_pilot.proofs.Moved.{failed_by}
use Rattle.sv_pilot.proofs.pilot.Pilot.act.Goals as goal

pub returns-in_err-action-clause-stopped : goal.returns-in_err-action-clause-stopped
returns-in_err-action-clause-stopped g c =
    failed_by c.from_residual.result c.in_err-action.field-0.0 c.from_residual.ensures.1
    (λ q. IfErr q (λ (trouble : Trouble). (trouble ≡ troubles.Game) ⊎ StoppedAction c.args.text.now c.args.self.now c.args.self.now trouble))
    (text_nothing c.args.text.now c.args.self.now c.in_err-action.field-0.0 c.in_err-action.ensures.blame)

pub returns-in_err-action-clause-refused : goal.returns-in_err-action-clause-refused
returns-in_err-action-clause-refused g c =
    failed_by c.from_residual.result c.in_err-action.field-0.0 c.from_residual.ensures.1 (λ q. IfErr q (λ (trouble : Trouble). trouble ≡ troubles.Game
    → (c.args.self.now ≡ c.args.self.now) × ((text_limit ≤ length c.args.text.now) ⊎ (NoneMayBeMade c.args.text.now c.args.self.now ⊎ (most_numbers ≤ makes c.args.self.now.client.events)))))
    (λ game. text_refused c.args.text.now c.args.self.now (c.in_err-action.ensures.refused game))

pub returns-clause-made : goal.returns-clause-made
returns-clause-made g c =
    made_text c.args.text.now c.args.self.now c.make.new.self c.in_ok-action.action c.make.result c.in_ok-action.ensures.text c.in_ok-action.ensures.short c.make.ensures.made

pub returns-clause-stopped : goal.returns-clause-stopped
returns-clause-stopped g c =
    weaken_err _ _ c.make.result (λ trouble p. stopped_text c.args.text.now c.args.self.now c.make.new.self c.in_ok-action.action trouble c.in_ok-action.ensures.short c.in_ok-action.ensures.text p) c.make.ensures.stopped

pub returns-clause-refused : goal.returns-clause-refused
returns-clause-refused g c =
    weaken_err _ _ c.make.result (λ trouble p game. ((p game).0, inr (none_made_or c.args.text.now c.args.self.now c.in_ok-action.action c.in_ok-action.ensures.only (p game).1))) c.make.ensures.refused

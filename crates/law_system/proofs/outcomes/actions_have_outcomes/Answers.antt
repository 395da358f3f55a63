-- Actions have outcomes, each for its reason.
use Rattle.std.proofs.Common.{inl, inr, ◌≡◌, ℕ, ◌<◌, List, Option, None, sym, ap, ◌∙◌, true≢false}
use Rattle.sv_world.specs.declared.action.Action.{Action}
use Rattle.sv_journal.specs.declared.entry.Entry.{Entry}
use Rattle.sv_journal.specs.Answer.{Rules, is_above}
use Rattle.sv_journal.specs.Serving.{plain}
use Rattle.law_system.specs.Outcomes.{IsDropped}
use Rattle.law_system.proofs.Judged.{are-judged, are-once}
use Rattle.law_system.proofs.AllTold.{has-outcomes}
use Rattle.law_system.proofs.Rights.{none-denied}
use Rattle.law_system.proofs.Owned.{plain-served, owns-own}
use Rattle.law_system.proofs.outcomes.actions_have_outcomes.Goals as goal

pub returns-clause-once : goal.returns-clause-once
returns-clause-once c = are-once

pub returns-clause-judged : goal.returns-clause-judged
returns-clause-judged c = are-judged

pub returns-clause-each : goal.returns-clause-each
returns-clause-each c = λ r h Ls i L legal fits member done.
    has-outcomes (record {
      keeping = plain;
      rules = r;
      journal = h;
      trace = L;
      served = plain-served r h Ls legal fits i L member;
      owns = owns-own r.world.shape h Ls fits i L member;
    }) done

over-chain : (r : Rules) (h : List Entry) (a : Action) (chain far : ℕ) → r.reach ≡ None → IsDropped r h a chain far → r.bound < chain
over-chain r h a chain far none d =
    elim d.over [
      | inl l ↦ l
      | inr o ↦ absurd (true≢false (sym o ∙ ap (λ (reach : Option ℕ). is_above reach far) none))
    ]

pub returns-clause-chains : goal.returns-clause-chains
returns-clause-chains c = over-chain

pub returns-clause-rights : goal.returns-clause-rights
returns-clause-rights c = none-denied

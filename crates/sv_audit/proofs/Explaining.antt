-- The positions of an explanation, and the answer that tells it.
use Rattle.std.proofs.Common.{◌≡◌, ℕ, ◌<◌, ◌≤◌, true, inl, inr, List, [], ℤ, length, reverse, subst, arith, refl}
use Rattle.std.specs.Prelude.{All}
use Rattle.std.proofs.lemmas.Bool.{cases_eq}
use Rattle.sv_world.specs.declared.action.Action.{Action}
use Rattle.sv_world.specs.Control.{is_in}
use Rattle.sv_world.proofs.Needs.{needed-bounds, needed-iff}
use Rattle.sv_world.proofs.Writers.{last_writer-most}
use Rattle.sv_world.proofs.Members.{all-members}
use Rattle.sv_journal.specs.History.{accepted, actions_of}
use Rattle.sv_scenario.specs.declared.scenario.Scenario.{Scenario}
use Rattle.law_system.specs.declared.played.Played.{Played}
use Rattle.sv_why.specs.Reasons.{writer_by, Explains}
use Rattle.sv_audit.specs.Judging.{IsExplained}
use Rattle.sv_audit.specs.Texts.{why_text}
use Rattle.sv_audit.specs.Words.{Asking}

-- They are positions up to the one that is asked for.
pub bounded : (opening : List (List ℤ)) (A : List Action) (x pos most : ℕ) (ks : List ℕ) (value : List ℤ) → Explains opening A x pos ks value → pos ≤ most → All (λ p. (1 ≤ p) × (p ≤ most)) ks
bounded opening A x pos most ks value e high =
    all-members (λ p. (1 ≤ p) × (p ≤ most)) ks
    (λ j m. elim (cases_eq (writer_by A x pos) 0) [
      | inl none ↦ (let out : is_in j [] ≡ true = subst (λ (ms : List ℕ). is_in j ms ≡ true) (e.unwritten none) m in cc)
      | inr some' ↦
          (let low : 0 < writer_by A x pos = omega arith in
          let b = needed-bounds A 0 [] (writer_by A x pos) low j ((needed-iff A 0 [] (writer_by A x pos) j low refl).1 ((e.exactly j low).0 m)) in
          let above : 0 < j = b.0 in
          let below : j ≤ writer_by A x pos = b.1 in
          let top : writer_by A x pos ≤ pos = last_writer-most A x pos in
          (omega arith, omega arith))
    ])

pub explains_is : (scenario : Scenario) (played : Played) (place : Asking) (text : List ℕ) (ks : List ℕ) (value : List ℤ) → place.object < scenario.world.shape.objects →
    place.pos ≤ length (accepted (reverse played.journal.entries)) → Explains scenario.world.values (actions_of (reverse played.journal.entries)) place.object place.pos ks value →
    text ≡ why_text (accepted (reverse played.journal.entries)) place.object ks value → IsExplained scenario played place text
explains_is scenario played place text ks value low high e t = record { object = low; pos = high; positions = ks; value = value; explains = e; text_is = t }

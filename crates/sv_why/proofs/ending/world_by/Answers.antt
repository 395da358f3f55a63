-- What is proved by hand of `world_by`.
use Rattle.std.proofs.Common.{◌≡◌, ℕ, ◌+◌, suc, ℤ, List, ap, ap₂, sym, ◌∙◌, arith, length, reverse}
use Rattle.std.proofs.lemmas.List.{length-map}
use Rattle.sv_world.specs.Control.{action_at}
use Rattle.sv_world.specs.declared.action.Action.{Action}
use Rattle.sv_eval.specs.Serial.{world_after, serial_world}
use Rattle.law_system.proofs.Serials.{serial-step}
use Rattle.sv_journal.specs.History.{Authored, accepted, actions_of}
use Rattle.sv_why.proofs.ending.world_by.Goals as goal

pub loop-at-preserved : goal.loop-at-preserved
loop-at-preserved c =
    let A = actions_of (reverse c.args.journal.now.entries) in
    let next : suc c.loop-at.at ≡ c.loop-at.at + 1 = omega arith in
    record {
      high = (let less = c.loop-at-test.true in omega arith);
      world = c.in_ok-execute.ensures
          ∙ ap₂ (λ (world : List (List ℤ)) (a : Action). world_after world a) c.loop-at.invariant.world c.accepted.ensures
          ∙ ap (λ (n : ℕ). world_after (serial_world c.args.opening.now A c.loop-at.at) (action_at A n)) (sym next)
          ∙ sym (serial-step c.args.opening.now A c.loop-at.at)
          ∙ ap (serial_world c.args.opening.now A) next;
    }

pub returns : goal.returns
returns c =
    let A = actions_of (reverse c.args.journal.now.entries) in
    let done = c.loop-at-test.false in
    let high = c.loop-at.invariant.high in
    let count : length A ≡ length (accepted (reverse c.args.journal.now.entries)) = length-map (accepted (reverse c.args.journal.now.entries)) (λ (a : Authored). a.action) in
    let all = c.requires in
    let here : c.loop-at.at ≡ length A = omega arith in
    c.loop-at.invariant.world ∙ ap (serial_world c.args.opening.now A) here

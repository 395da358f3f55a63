-- What is proved by hand of `Actor::tell_next`.
use Rattle.std.proofs.Common.{List, ℕ, [], ◌∷◌, ◌++◌, string_bytes, ap, ◌∙◌}
use Rattle.sv_check.specs.Serving.{entries_of}
use Rattle.sv_check.proofs.Lines.{step_done, step_line}
use Rattle.sv_check.proofs.actor.Actor.tell_next.Goals as goal

pub returns-clause-done : goal.returns-clause-done
returns-clause-done c =
    step_done (entries_of c.args.served.now) c.args.self.now c.do_next.new.self c.args.event.now c.requires.next.other c.in_ok-do_next.ensures.on.first c.in_ok-do_next.ensures.done

pub returns-clause-line : goal.returns-clause-line
returns-clause-line c =
    c.in_ok-push_str.ensures.bytes ∙ ap (λ (xs : List ℕ). xs ++ 10 ∷ [])
    (step_line (entries_of c.args.served.now) c.args.self.now c.do_next.new.self c.args.event.now (string_bytes c.new-line.result) (string_bytes c.append_before.new.out) (string_bytes c.append_after.new.out)
    c.requires.acting c.requires.next.other c.requires.next.may c.in_ok-do_next.ensures.done c.new-line.ensures.bytes c.in_ok-append_before.ensures c.in_ok-append_after.ensures)

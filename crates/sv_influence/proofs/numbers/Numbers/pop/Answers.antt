-- What the check leaves to prove of `Numbers::pop`.
use Rattle.std.proofs.Common.{◌≡◌, true, subst, option_to_list}
use Rattle.sv_world.specs.Faults.{is_ascending}
use Rattle.sv_influence.proofs.Places.{ascending-front}
use Rattle.sv_influence.proofs.numbers.Numbers.pop.Goals as goal

pub invariant_of-self : goal.invariant_of-self
invariant_of-self c =
    ascending-front c.pop.new.self.items (option_to_list c.pop.result)
    (subst (λ xs. is_ascending xs ≡ true) c.pop.ensures.items c.self.invariant)

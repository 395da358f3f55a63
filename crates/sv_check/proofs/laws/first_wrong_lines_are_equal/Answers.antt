-- What is proved by hand of `first_wrong_lines_are_equal`.
use Rattle.sv_check.proofs.FirstWrong.{same_number}
use Rattle.sv_check.proofs.laws.first_wrong_lines_are_equal.Goals as goal

pub returns : goal.returns
returns c scenario text m n short p q =
    same_number c.full_replies_stay.ensures c.legal_relays_name_accepted.ensures scenario text short m n p q

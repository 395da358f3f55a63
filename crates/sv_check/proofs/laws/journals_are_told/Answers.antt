-- What is proved by hand of `journals_are_told`.
use Rattle.sv_check.proofs.Journals.{journals_tell}
use Rattle.sv_check.proofs.laws.journals_are_told.Goals as goal

pub returns : goal.returns
returns c scenario entries others behind rest good told tells small little same =
    journals_tell c.full_replies_stay.ensures c.legal_relays_name_accepted.ensures scenario good.sessions entries others behind rest told tells small little same

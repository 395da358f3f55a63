-- What the check leaves to prove of `append_objects`.
use Rattle.sv_journal.proofs.Fronts.{may_cut}
use Rattle.sv_journal.proofs.text.append_objects.Goals as goal

pub whole_or_cut-requires : goal.whole_or_cut-requires
whole_or_cut-requires c = may_cut c.args.out.now c.put_objects-put.new.out c.len-len.result c.len-len.ensures c.put_objects-put.ensures.front

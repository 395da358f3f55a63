-- An older cut has an item.
use Rattle.sv_world.proofs.Growing.{see_next-shorter}
use Rattle.sv_world.proofs.Greatest.{cut-news}
use Rattle.sv_world.proofs.cuts.an_older_cut_has_an_item.Goals as goal

pub returns-clause-next : goal.returns-clause-next
returns-clause-next c = see_next-shorter

pub returns-clause-item : goal.returns-clause-item
returns-clause-item c = cut-news

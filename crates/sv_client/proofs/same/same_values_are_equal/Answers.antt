-- What is proved by hand of `same_values_are_equal`.
use Rattle.std.proofs.lemmas.Bool.Decides.{Decides-int_eq}
use lib.Pointwise.{pointwise_decides}
use Rattle.sv_client.proofs.same.same_values_are_equal.Goals as goal

pub returns : goal.returns
returns c = pointwise_decides (pointwise_decides Decides-int_eq)

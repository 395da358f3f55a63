-- What is proved by hand of `views_and_results_have_the_numbers_of_their_world`.
use Rattle.sv_pending.proofs.Shapes.{view_shaped, kept_shaped, redone_shaped}
use Rattle.sv_pending.proofs.laws.views_and_results_have_the_numbers_of_their_world.Goals as goal

pub returns : goal.returns
returns c = record { views = view_shaped; kept = kept_shaped; redone = redone_shaped }
